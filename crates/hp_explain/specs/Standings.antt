-- The progress of each processor in its script after new records, and its next step.
use Rattle.std.specs.Prelude.{◌≡◌, ◌⊎◌, ℕ, List, [], ◌∷◌, ◌++◌, Option, Some, None, length, slice_get, option_map}
use Rattle.std.specs.Option.{option_map_or}
use Rattle.hp_units.specs.declared.events.Event.{Event}
use Rattle.hp_units.specs.declared.replies.Record.{Record}
use Rattle.hp_schedules.specs.LineAnswers.{answers_at}
use Rattle.hp_schedules.specs.Schedules.{Setting, next_call, plays, record_of_call}
use Rattle.hp_schedules.specs.declared.line_answers.LineAnswer.{LineAnswer}
use Rattle.hp_explore.specs.Faults.{FillsHere}
use Rattle.hp_explore.specs.Paths.{PathValue}
use Rattle.hp_explain.specs.Explaining.{AreOverBefore, MayRun}
use Rattle.hp_explain.specs.declared.observed.ObservedLine.{ObservedLine}
use Rattle.hp_explain.specs.declared.standing.Next.{Next}
use Rattle.hp_explain.specs.declared.standing.Next.TheVariants.{Answered, Finished, GoesOn, HistoryFull, Waits}
use Rattle.hp_explain.specs.declared.standing.Standing.{Standing}
use Rattle.hp_explain.specs.declared.standing.Unfinished.{Unfinished}

-- `u.line` is the first unfinished line of the processor `u.cpu`. As observed, one of the lines
-- that this processor has not finished after the new records was answered before the time
abbrev pub IsUnfinished : Setting → List (List ObservedLine) → List Record → (time : ℕ) → Unfinished → Type 0
IsUnfinished g seen news time u =
    (lines : List ObservedLine) × (slice_get seen u.cpu ≡ Some lines)
    × (u.line ≡ length (answers_at g u.cpu news)) × (AreOverBefore lines u.line time → ⊥)

-- `cpu` has to wait: as observed, a line of `u.cpu` that is still unfinished was answered before
-- the next line of `cpu` began
abbrev pub IsWaiting : Setting → List (List ObservedLine) → List Record → (cpu : ℕ) → Unfinished → Type 0
IsWaiting g seen news cpu u =
    (lines : List ObservedLine) × (one : ObservedLine) × (slice_get seen cpu ≡ Some lines)
    × (slice_get lines (length (answers_at g cpu news)) ≡ Some one) × IsUnfinished g seen news one.from u

-- with a line `u`, the processor has to wait for that line; with None, its next line may run
abbrev pub IsWaitingFor : Setting → List (List ObservedLine) → List Record → (cpu : ℕ) → Option Unfinished
    → Type 0
IsWaitingFor g seen news cpu (Some u) = IsWaiting g seen news cpu u
IsWaitingFor g seen news cpu None = MayRun g seen news cpu

-- ---- answers

-- the answers to the processor's lines after the records `news` are those after `before`, followed by
-- `more`
abbrev pub Adds : Setting → (cpu : ℕ) → (before news : List Record) → List (Option LineAnswer) → Type 0
Adds g cpu before news more = answers_at g cpu news ≡ answers_at g cpu before ++ more

-- the answer that the latest call gave to the processor's line; `GoesOn` if it gave none
abbrev pub IsLatestAnswer : Setting → (cpu : ℕ) → (before news : List Record) → Next → Type 0
IsLatestAnswer g cpu before news (Answered answer) = Adds g cpu before news (Some answer ∷ [])
IsLatestAnswer g cpu before news GoesOn = Adds g cpu before news [] ⊎ Adds g cpu before news (None ∷ [])
IsLatestAnswer g cpu before news next = ⊥

-- the answer that the next call gives to the processor's line; `GoesOn` if it gives none
abbrev pub IsNextAnswer : Setting → List Record → (cpu : ℕ) → Next → Type 0
IsNextAnswer g news cpu next =
    (event : Event) × (next_call g cpu news ≡ Some event)
    × IsLatestAnswer g cpu news (news ++ record_of_call g news cpu event ∷ []) next

-- the processor's next step. Either its script is finished, or it waits for a line. Or its next
-- call gives an answer or goes on without one, or the history has no room for this call
abbrev pub IsNext : Setting → List (List ObservedLine) → List Record → (cpu : ℕ) → Next → Type 0
IsNext g seen news cpu Finished = next_call g cpu news ≡ None
IsNext g seen news cpu (Waits u) = IsWaiting g seen news cpu u
IsNext g seen news cpu (Answered answer) = MayRun g seen news cpu × IsNextAnswer g news cpu (Answered answer)
IsNext g seen news cpu GoesOn = MayRun g seen news cpu × IsNextAnswer g news cpu GoesOn
IsNext g seen news cpu HistoryFull = MayRun g seen news cpu × FillsHere g news cpu

-- the lines of a processor that were seen; none if there is no such processor
abbrev pub seen_of : List (List ObservedLine) → (cpu : ℕ) → List ObservedLine
seen_of seen cpu = option_map_or (λ lines. lines) (slice_get seen cpu) []

-- a processor's progress: the number of lines that it has finished, the number of its lines that
-- were seen, the answer that was seen to its next line, and its next step
pub record IsStanding (g : Setting) (seen : List (List ObservedLine)) (news : List Record) (cpu : ℕ)
    (s : Standing) : Type 0 where
  pub cpu_is : s.cpu ≡ cpu
  pub finished : s.finished ≡ length (answers_at g cpu news)
  pub lines : s.lines ≡ length (seen_of seen cpu)
  pub seen_is : s.seen ≡ option_map (λ one. one.answer) (slice_get (seen_of seen cpu) s.finished)
  pub next : IsNext g seen news cpu s.next

-- the progress of each processor below `cpus`
abbrev pub AreStandingsBelow : Setting → List (List ObservedLine) → List Record → (cpus : ℕ) → List Standing
    → Type 0
AreStandingsBelow g seen news cpus all =
    (length all ≡ cpus)
    × ((cpu : ℕ) (s : Standing) → slice_get all cpu ≡ Some s → IsStanding g seen news cpu s)

-- the progress of all processors
abbrev pub AreStandings : Setting → List (List ObservedLine) → List Record → List Standing → Type 0
AreStandings g seen news all = AreStandingsBelow g seen news (length seen) all

-- the path is at the place that the schedule leads to
abbrev pub IsAlong : Setting → (schedule : List ℕ) → PathValue → Type 0
IsAlong g schedule path = (path.setting ≡ g) × (plays g schedule ≡ Some path.news)
