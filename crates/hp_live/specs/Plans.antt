-- The effect of calls on a port that stores their receipts.
use Rattle.std.specs.Prelude.{◌≡◌, ℕ, Bool, false, List, [], ◌++◌}
use Rattle.std.proofs.Common.{ap, sym, ◌∙◌, append-nil, append_assoc}
use Rattle.hp_units.specs.declared.plans.Item.{Item}
use Rattle.hp_units.specs.declared.replies.OpEnd.{OpEnd}
use Rattle.hp_units.specs.declared.replies.Receipt.{Receipt}
use Rattle.hp_machine.specs.Machine.{MachineValue}
use Rattle.hp_machine.specs.MachinePorts.{IsPlanRun}

-- the receipts `gained` were appended, unless one was lost
abbrev pub Keeps : (old : List Receipt) → (was_lost : Bool) → List Receipt → (new : List Receipt)
    → (is_lost : Bool) → Type 0
Keeps old was_lost gained new is_lost = is_lost ≡ false → (was_lost ≡ false) × (new ≡ old ++ gained)

-- the plan was run to this end, and the receipts of its calls were appended
abbrev pub IsRunWith : MachineValue → (cpu turns : ℕ) → List Item → (old : List Receipt) → (end : OpEnd)
    → (kept : List Receipt) → (new : MachineValue) → Type 0
IsRunWith m cpu turns plan old end kept new =
    (run : IsPlanRun m cpu turns plan end new) × (kept ≡ old ++ run.receipts)

-- without a call, nothing changes
pub keeps_nothing : (calls : List Receipt) (lost : Bool) → Keeps calls lost [] calls lost
keeps_nothing calls lost = λ none. (none, sym (append-nil calls))

-- two sequences of calls, one after the other, append the receipts of both
pub keeps_joined : (xs ys old mid new : List Receipt) (was between is : Bool)
    → Keeps old was xs mid between → Keeps mid between ys new is → Keeps old was (xs ++ ys) new is
keeps_joined xs ys old mid new was between is first second = λ none.
    let later = second none in
    let earlier = first later.0 in
    (earlier.0, later.1 ∙ ap (λ (l : List Receipt). l ++ ys) earlier.1 ∙ append_assoc old xs ys)
