-- The end of one schedule of a part.
use Rattle.std.specs.Prelude.{◌≡◌, ℕ, Bool, true, false, List, Option, Some, None}
use Rattle.hp_schedules.specs.Outcomes.{OutcomeValue}
use Rattle.hp_explore.specs.Paths.{PathValue}
use Rattle.hp_schedules.specs.Schedules.{Setting, plays, schedule_of}
use Rattle.hp_schedules.specs.Parts.{EndsInPart, PartValue}

-- the schedule is a complete schedule of the part, with this outcome; None if it is not one
abbrev pub IsEndOf : Setting → PartValue → (schedule : List ℕ) → Option OutcomeValue → Type 0
IsEndOf g part schedule None = (x : OutcomeValue) → EndsInPart g part schedule x → ⊥
IsEndOf g part schedule (Some x) = EndsInPart g part schedule x

-- if `led` is true, the schedule led to the path; else one of its processors had no call to make at
-- its turn
abbrev pub IsFollowed : Setting → (schedule : List ℕ) → (led : Bool) → PathValue → Type 0
IsFollowed g schedule true path = (path.setting ≡ g) × (schedule_of path.news ≡ schedule)
IsFollowed g schedule false path = plays g schedule ≡ None
