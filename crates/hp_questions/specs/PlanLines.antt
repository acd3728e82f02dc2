-- Patterns for the end of a plan, and the ends that match them.
use Rattle.std.specs.Prelude.{◌≡◌, ℕ, Bool, List, Option, Some, None, slice_get}
use Rattle.hp_units.specs.declared.replies.OpEnd.{OpEnd}
use Rattle.hp_units.specs.declared.replies.OpEnd.TheVariants.{Done as EndsDone, Refused as EndsRefused, Cancelled as EndsCancelled, Undone as EndsUndone}
use Rattle.hp_units.specs.declared.replies.Refusal.{Refusal}
use Rattle.hp_units.specs.declared.replies.Reply.TheVariants.{Refused as RefusedReply}
use Rattle.hp_questions.specs.Patterns.{IsAsWanted}
use Rattle.hp_questions.specs.declared.plan_lines.EndPattern.{EndPattern}
use Rattle.hp_questions.specs.declared.plan_lines.EndPattern.TheVariants.{Done, Undone, Refused, Cancelled, CancelledAs}
use Rattle.hp_questions.specs.declared.wanted.Pattern.{Pattern}

-- either the last refusal matches the wanted one, or none is wanted and there is none
abbrev pub IsCauseAsWanted : (wanted : Option Pattern) → (seen : Option Refusal) → Type 0
IsCauseAsWanted None None = Unit {0}
IsCauseAsWanted None (Some seen) = ⊥
IsCauseAsWanted (Some wanted) None = ⊥
IsCauseAsWanted (Some wanted) (Some seen) = IsAsWanted wanted (RefusedReply seen)

-- the plan's Begin was refused, and the refusal matches
abbrev pub IsRefusedAs : Pattern → OpEnd → Type 0
IsRefusedAs wanted (EndsRefused refusal) = IsAsWanted wanted (RefusedReply refusal)
IsRefusedAs wanted end = ⊥

-- the plan was cancelled
abbrev pub IsCancelled : OpEnd → Type 0
IsCancelled (EndsCancelled why restored) = Unit {0}
IsCancelled end = ⊥

-- the plan was cancelled, its last refusal is as wanted, and the Cancel dropped its steps exactly
-- if `restored` is true
abbrev pub IsCancelledAs : (why : Option Pattern) → (restored : Bool) → OpEnd → Type 0
IsCancelledAs wanted restored (EndsCancelled why dropped) =
    (dropped ≡ restored) × IsCauseAsWanted wanted why
IsCancelledAs wanted restored end = ⊥

-- the end matches the pattern
abbrev pub IsEndAsWanted : EndPattern → OpEnd → Type 0
IsEndAsWanted Done end = end ≡ EndsDone
IsEndAsWanted Undone end = end ≡ EndsUndone
IsEndAsWanted (Refused refusal) end = IsRefusedAs refusal end
IsEndAsWanted Cancelled end = IsCancelled end
IsEndAsWanted (CancelledAs why restored) end = IsCancelledAs why restored end

-- one of a processor's plans ended as wanted
abbrev pub HasEnd : EndPattern → List OpEnd → Type 0
HasEnd wanted ends = (at : ℕ) × (end : OpEnd) × (slice_get ends at ≡ Some end) × IsEndAsWanted wanted end

-- one of this processor's plans ended as wanted; without a processor, one of any processor's plans did
abbrev pub HasPlanEnd : EndPattern → List (List OpEnd) → (cpu : Option ℕ) → Type 0
HasPlanEnd wanted all None =
    (cpu : ℕ) × (ends : List OpEnd) × (slice_get all cpu ≡ Some ends) × HasEnd wanted ends
HasPlanEnd wanted all (Some cpu) =
    (ends : List OpEnd) × (slice_get all cpu ≡ Some ends) × HasEnd wanted ends
