-- An operation among steps of which none was refused, with serials that rise: what its Begin made,
-- and that it holds its rows or is over.
use Rattle.std.proofs.Common.{◌≡◌, ◌≢◌, ℕ, suc, List, drop, take, ap, sym, ◌∙◌, arith, inl}
use Rattle.std.proofs.lemmas.List.{take-append-drop}
use Rattle.hp_units.specs.LayoutParts.{LayoutParts, IsLayout}
use Rattle.hp_units.specs.Memory.{Memory}
use Rattle.hp_units.specs.History.{run}
use Rattle.hp_units.specs.Placement.{IsWellPlaced}
use Rattle.hp_laws.specs.Operations.{BeginsAt, IsOpenBehind}
use Rattle.hp_laws.proofs.Names.{Record, Item}
use Rattle.hp_laws.proofs.Lists.{take_next}
use Rattle.hp_laws.proofs.Net.{Numbered, run-append, run-push}
use Rattle.hp_laws.proofs.EventSteps.{run-placed}
use Rattle.hp_laws.proofs.Records.{AllGood}
use Rattle.hp_laws.proofs.OperationPhases.{AreBegun, HoldsOrIsOver, IsBeginOf, begin-good, each_from, plan-begun, run-held, run-phase}

-- the state just before the step at a place, and the one just after it
abbrev pub old_in : LayoutParts → Memory → List Record → ℕ → Memory
old_in l base n place = run l base (take place n)

abbrev pub new_in : LayoutParts → Memory → List Record → ℕ → Memory
new_in l base n place = run l base (take (suc place) n)

-- the Begin at a place succeeded
pub begin_in : (l : LayoutParts) (base : Memory) (n : List Record) (place : ℕ) (b : Record) (plan : List Item)
    → AllGood l base n → BeginsAt n place b plan
    → IsBeginOf l (old_in l base n place) (new_in l base n place) b.serial plan
begin_in l base n place b plan good at =
    rw (take_next n place b at.here, run-push l base _ b, at.opens)
    (begin-good l _ _ b.cpu plan (rw (← at.opens) (good place b at.here)))

-- and claimed the blocks of its plan
pub begun_in : (l : LayoutParts) (base : Memory) (n : List Record) (place : ℕ) (b : Record) (plan : List Item)
    → IsLayout l → IsWellPlaced l base → AllGood l base n → BeginsAt n place b plan
    → AreBegun b.serial (old_in l base n place) (new_in l base n place) plan
begun_in l base n place b plan layout p good at =
    let opens : IsBeginOf l (old_in l base n place) (new_in l base n place) b.serial plan =
    begin_in l base n place b plan good at in
    rw opens.memory (plan-begun l _ _ plan (run-placed l base _ layout p) opens.fine)

-- the state after all steps, from the one after the step at a place
rest_in : (l : LayoutParts) (base : Memory) (n : List Record) (place : ℕ)
    → run l base n ≡ run l (new_in l base n place) (drop (suc place) n)
rest_in l base n place = ap (run l base) (sym (take-append-drop (suc place) n)) ∙ run-append l base _ _

-- an operation that no step ends holds its rows
pub held_in : (l : LayoutParts) (base : Memory) (n : List Record) (place : ℕ) (b : Record) (plan : List Item)
    → IsLayout l → IsWellPlaced l base → AllGood l base n → BeginsAt n place b plan
    → IsOpenBehind b.serial place n
    → AreBegun b.serial (old_in l base n place) (run l base n) plan
held_in l base n place b plan layout p good at stays =
    rw (rest_in l base n place) (run-held l _ _ _ plan _ layout
    (run-placed l base _ layout p) stays (begun_in l base n place b plan layout p good at))

-- and each holds its rows or is over, after all steps
pub phase_in : (l : LayoutParts) (base : Memory) (before last : ℕ) (n : List Record) (place : ℕ) (b : Record)
    (plan : List Item)
    → IsLayout l → IsWellPlaced l base → Numbered before last n → AllGood l base n → BeginsAt n place b plan
    → HoldsOrIsOver b.serial (old_in l base n place) (run l base n) plan
phase_in l base before last n place b plan layout p numbered good at =
    rw (rest_in l base n place) (run-phase l (new_in l base n place) b.serial (old_in l base n place) plan
    (drop (suc place) n) layout (run-placed l base (take (suc place) n) layout p)
    (each_from (λ (r : Record). r.serial ≢ b.serial) n (suc place)
    (λ j r le e. λ same. absurd (omega (arith, same, numbered.rising place j b r (omega arith) at.here e))))
    (inl (begun_in l base n place b plan layout p good at)))
