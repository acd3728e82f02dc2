-- The orders that explain the answers of processors.
use Rattle.std.specs.Prelude.{◌≡◌, ℕ, ◌+◌, ◌-◌, ◌<◌, ◌≤◌, min, List, ◌∷◌, ◌++◌, Option, Some, None, length, slice_get}
use Rattle.hp_units.specs.declared.replies.Record.{Record}
use Rattle.hp_schedules.specs.LineAnswers.{answers_at}
use Rattle.hp_schedules.specs.Orders.{IsBefore}
use Rattle.hp_schedules.specs.Schedules.{Setting, next_call, plays}
use Rattle.hp_schedules.specs.declared.line_answers.LineAnswer.{LineAnswer}
use Rattle.hp_explore.specs.Reaching.{HasRoomAlong}
use Rattle.hp_explore.specs.declared.fault.FindFault.{FindFault}
use Rattle.hp_explore.specs.declared.fault.FindFault.TheVariants.{HistoryFull, OutOfMemory, Stopped}
use Rattle.hp_explain.specs.declared.explaining.Explanation.{Explanation}
use Rattle.hp_explain.specs.declared.explaining.Explanation.TheVariants.{Explained, Unexplained}
use Rattle.hp_explain.specs.declared.observed.ObservedLine.{ObservedLine}

-- ---- the answers that were seen

-- no line's `to`, the time by which it was answered, is below that of an earlier line
abbrev pub AreRising : List ObservedLine → Type 0
AreRising lines =
    (i j : ℕ) (a b : ObservedLine) → slice_get lines i ≡ Some a → slice_get lines j ≡ Some b → i ≤ j
    → a.to ≤ b.to

-- this answer was seen for the processor's line; lines are counted from 0
abbrev pub HasSeen : List (List ObservedLine) → (cpu line : ℕ) → Option LineAnswer → Type 0
HasSeen seen cpu line answer =
    (lines : List ObservedLine) × (one : ObservedLine) × (slice_get seen cpu ≡ Some lines)
    × (slice_get lines line ≡ Some one) × (answer ≡ Some one.answer)

-- each line that was answered before the time is among the first `count` lines
abbrev pub AreOverBefore : List ObservedLine → (count time : ℕ) → Type 0
AreOverBefore lines count time =
    (k : ℕ) (one : ObservedLine) → slice_get lines k ≡ Some one → one.to < time → k < count

-- ---- the orders that explain the answers

-- each line that is finished after the new records has the answer that was seen
abbrev pub AreAsSeen : Setting → List (List ObservedLine) → List Record → Type 0
AreAsSeen g seen news =
    (cpu line : ℕ) (answer : Option LineAnswer) → slice_get (answers_at g cpu news) line ≡ Some answer
    → HasSeen seen cpu line answer

-- after the new records, each processor has finished its lines that were answered before the time
abbrev pub AreAllOverBefore : Setting → List (List ObservedLine) → List Record → (time : ℕ) → Type 0
AreAllOverBefore g seen news time =
    (cpu : ℕ) (lines : List ObservedLine) → slice_get seen cpu ≡ Some lines
    → AreOverBefore lines (length (answers_at g cpu news)) time

-- the processor's first unfinished line may run: all lines that were answered before it began are
-- finished
abbrev pub MayRun : Setting → List (List ObservedLine) → List Record → (cpu : ℕ) → Type 0
MayRun g seen news cpu =
    (lines : List ObservedLine) (one : ObservedLine) → slice_get seen cpu ≡ Some lines
    → slice_get lines (length (answers_at g cpu news)) ≡ Some one → AreAllOverBefore g seen news one.from

-- each call was made by a line that could run at that time
abbrev pub AreInTime : Setting → List (List ObservedLine) → List Record → Type 0
AreInTime g seen news =
    (before : List Record) (r : Record) (later : List Record) → news ≡ before ++ r ∷ later
    → MayRun g seen before r.cpu

-- the number of further calls that can be recorded: each needs room in the history and a serial
abbrev pub calls_left : Setting → ℕ
calls_left g =
    min (g.layout.history - length g.start) (18446744073709551615 - (g.before + length g.start))

-- the schedule explains the observed answers so far, as the beginning of an order. It can be played,
-- and the history has room for its calls. Each line that it finishes has the answer that was seen, and
-- each of its calls is made in time
pub record IsExplained (g : Setting) (seen : List (List ObservedLine)) (schedule : List ℕ) : Type 0 where
  pub news : List Record
  pub played : plays g schedule ≡ Some news
  pub few : length schedule ≤ calls_left g
  pub answered : AreAsSeen g seen news
  pub timed : AreInTime g seen news

-- the schedule explains the observed answers, and finishes all scripts
pub record Explains (g : Setting) (seen : List (List ObservedLine)) (schedule : List ℕ) : Type 0 where
  pub begun : IsExplained g seen schedule
  pub over : (cpu : ℕ) → next_call g cpu begun.news ≡ None

-- ---- results

-- either the first schedule that explains the observed answers; the history has room for its calls.
-- Or a longest explained beginning, if no schedule explains them
abbrev pub IsExplanation : Setting → List (List ObservedLine) → Explanation → Type 0
IsExplanation g seen (Explained schedule) =
    Explains g seen schedule.items
    × ((s : List ℕ) → Explains g seen s → IsBefore s schedule.items → ⊥)
    × HasRoomAlong g schedule.items
IsExplanation g seen (Unexplained longest) =
    ((s : List ℕ) → Explains g seen s → ⊥) × IsExplained g seen longest.items
    × ((s : List ℕ) → IsExplained g seen s → length s ≤ length longest.items)

-- the cause of a fault. `HistoryFull` never comes, because the search tries no call without room
abbrev pub IsExplainCause : FindFault → Type 0
IsExplainCause HistoryFull = ⊥
IsExplainCause OutOfMemory = Unit {0}
IsExplainCause Stopped = Unit {0}
