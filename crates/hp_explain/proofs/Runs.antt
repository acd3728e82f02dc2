-- Whether the line that a processor works on next may run.
use Rattle.std.proofs.Common.{◌≡◌, ℕ, ◌<◌, ◌≤◌, List, length, Some, slice_get, arith}
use Rattle.std.proofs.lemmas.Option.{slice_get_within}
use Rattle.hp_units.specs.declared.replies.Record.{Record}
use Rattle.hp_schedules.specs.LineAnswers.{answers_at}
use Rattle.hp_schedules.specs.Schedules.{Setting}
use Rattle.hp_explain.specs.Explaining.{AreAllOverBefore, AreOverBefore}
use Rattle.hp_explain.specs.declared.observed.ObservedLine.{ObservedLine}

-- ---- the lines of the first processors

abbrev pub AreOverBelow : Setting → List (List ObservedLine) → List Record → (time cpus : ℕ) → Type 0
AreOverBelow g seen news time cpus =
    (cpu : ℕ) (lines : List ObservedLine) → cpu < cpus → slice_get seen cpu ≡ Some lines
    → AreOverBefore lines (length (answers_at g cpu news)) time

pub over_all : (g : Setting) (seen : List (List ObservedLine)) (news : List Record) (time cpus : ℕ)
    → length seen ≤ cpus → AreOverBelow g seen news time cpus → AreAllOverBefore g seen news time
over_all g seen news time cpus all over cpu lines here =
    over cpu lines (omega (arith, slice_get_within seen cpu lines here, all)) here
