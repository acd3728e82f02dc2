-- The receipts that a plan's calls leave.
use Rattle.std.proofs.Common.{arith, ◌≡◌, ℕ, Bool, false, ◌||◌, not, List, [], ◌++◌, Option, Some, refl, ap, ◌∙◌}
use Rattle.hp_units.specs.Driver.{IsDriverRun}
use Rattle.hp_units.specs.declared.plans.Item.{Item}
use Rattle.hp_units.specs.declared.replies.CallFault.{CallFault}
use Rattle.hp_units.specs.declared.replies.OpEnd.{OpEnd}
use Rattle.hp_units.specs.declared.replies.Receipt.{Receipt}
use Rattle.hp_machine.specs.Machine.{MachineValue}
use Rattle.hp_machine.specs.MachinePorts.{AreCalls, HasCause}
use Rattle.hp_ops.specs.Ports.{AreMade}
use Rattle.hp_live.specs.Answers.{AnswerValue, IsLeft, IsPlanKept, IsPlanTold, said, untold}
use Rattle.hp_live.specs.declared.answers.Did.{Did}
use Rattle.hp_live.specs.declared.answers.Did.TheVariants as did
use Rattle.hp_live.specs.Plans.{IsRunWith, Keeps}

-- one receipt more
pub one_kept : (old now new gained : List Receipt) (was is kept : Bool) → is ≡ (was || not kept)
    → now ≡ old → Keeps now false gained new (not kept) → Keeps old was gained new is
one_kept old now new gained was is kept lost same keeps = grind arith

-- what the calls that gave receipts and the one that left a fault made of a port
pub all_kept : {S N K : Type 0} (old new : S) (name : S → N) (list : S → K) (cpu : S → ℕ)
    (machine : S → MachineValue) (calls : S → List Receipt) (lost : S → Bool) (gained : List Receipt)
    (fault : Option CallFault)
    → AreMade
    (λ (p : S) (rs : List Receipt) (q : S). (name q ≡ name p) × (list q ≡ list p) × (cpu q ≡ cpu p)
    × AreCalls (machine p) (cpu p) rs (machine q) × Keeps (calls p) (lost p) rs (calls q) (lost q))
    (λ (p : S) (left : CallFault) (q : S). (name q ≡ name p) × (list q ≡ list p) × (cpu q ≡ cpu p)
    × (machine q ≡ machine p) × HasCause (Some left) (machine p) × (calls q ≡ calls p)
    × (lost q ≡ lost p))
    old gained fault new
    → (name new ≡ name old) × (list new ≡ list old)
    × AreCalls (machine old) (cpu old) gained (machine new) × HasCause fault (machine new)
    × Keeps (calls old) (lost old) gained (calls new) (lost new)
all_kept old new name list cpu machine calls lost gained fault made = grind arith

-- a run, from a port's machine and receipts before and after it
pub run_with : (m first last new : MachineValue) (cpu caller turns : ℕ) (plan : List Item) (end : OpEnd)
    (fault : Option CallFault) (gained old start kept now : List Receipt)
    → first ≡ m → caller ≡ cpu → new ≡ last → start ≡ old → now ≡ kept
    → AreCalls first caller gained last → HasCause fault last
    → kept ≡ start ++ gained
    → IsDriverRun first.layout.cpus turns plan gained fault end
    → IsRunWith m cpu turns plan old end now new
run_with m first last new cpu caller turns plan end fault gained old start kept now at_first same at_last
    at_start at_kept calls cause keeps ran = (
      record {
        receipts = gained;
        fault = fault;
        calls = rw (at_last, ← same, ← at_first) calls;
        cause = rw at_last cause;
        run = rw (← at_first) ran;
      },
      at_kept ∙ keeps ∙ ap (λ (l : List Receipt). l ++ gained) at_start,
    )

-- the run of a copy of a plan, in an answer that was empty
pub plan_kept : (m new : MachineValue) (cpu turns : ℕ) (plan copied : List Item) (end : OpEnd)
    (text : List ℕ) (old kept : List Receipt) (d : Did)
    → copied ≡ plan → record { text = text; calls = old; did = d } ≡ untold
    → IsRunWith m cpu turns copied old end kept new
    → IsPlanKept m cpu turns plan end (record { text = text; calls = kept; did = d }) new
plan_kept m new cpu turns plan copied end text old kept d same empty ran =
    let none : old ≡ [] = ap (λ (a : AnswerValue). a.calls) empty in
    rw (← same) (
      ran.0,
      ap (λ (a : AnswerValue). record { text = a.text; calls = kept; did = a.did }) empty
          ∙ ap (λ (l : List Receipt). record { text = []; calls = l; did = did.NoLine })
          (ran.1 ∙ ap (λ (l : List Receipt). l ++ ran.0.receipts) none),
    )

-- a plan that ended before its first call
pub none_kept : (m : MachineValue) (cpu turns : ℕ) (plan : List Item) (end : OpEnd) (a : AnswerValue)
    → IsLeft m end → a ≡ untold → IsPlanKept m cpu turns plan end a m
none_kept m cpu turns plan end a left is = (
  record {
    receipts = [];
    fault = Some left.0;
    calls = refl;
    cause = left.1;
    run = record { events = tt; ends = left.2 };
  },
  is,
)

-- a plan that was run, once its end is said
pub plan_told : (m new : MachineValue) (cpu turns : ℕ) (plan : List Item) (end : OpEnd) (a b : AnswerValue)
    → IsPlanKept m cpu turns plan end a new → b ≡ said a (did.Plan end)
    → IsPlanTold m cpu turns plan b new
plan_told m new cpu turns plan end a b kept is =
    (end, kept.0, is ∙ ap (λ (x : AnswerValue). said x (did.Plan end)) kept.1)
