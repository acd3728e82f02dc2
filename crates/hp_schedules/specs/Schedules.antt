-- What a schedule does on a machine, and which schedules are complete.
use Rattle.std.specs.Prelude.{◌≡◌, ℕ, ◌+◌, List, [], ◌∷◌, ◌++◌, Option, Some, None, length, map, fold, slice_get, option_map, option_and_then}
use Rattle.hp_units.specs.LayoutParts.{LayoutParts}
use Rattle.hp_units.specs.Memory.{Memory}
use Rattle.hp_units.specs.History.{reply_of, value_of}
use Rattle.hp_units.specs.Receipts.{receipts_of}
use Rattle.hp_units.specs.declared.events.Event.{Event}
use Rattle.hp_units.specs.declared.replies.Record.{Record}
use Rattle.hp_schedules.specs.declared.scripts.Step.{Step}
use Rattle.hp_schedules.specs.Outcomes.{OutcomeValue, outcome}
use Rattle.hp_schedules.specs.Scripts.{next_of}

-- the scripts, from processor 0 on, and where they begin: the layout, the base state with the number of
-- records before it, and the records since then. The new records, `news`, are those after `start`
pub record Setting : Type 0 where
  pub layout : LayoutParts
  pub base : Memory
  pub before : ℕ
  pub start : List Record
  pub scripts : List (List Step)

-- the next event of a processor's script after the new records; None at its end or without a script
unfoldable pub next_call : Setting → (cpu : ℕ) → List Record → Option Event
next_call g cpu news =
    option_and_then (λ lines. next_of g.layout.cpus lines (receipts_of cpu news)) (slice_get g.scripts cpu)

-- the record of a processor's event after the new records, with the next serial and the reply that the
-- model gives
unfoldable pub record_of_call : Setting → List Record → (cpu : ℕ) → Event → Record
record_of_call g news cpu event = record {
  serial = g.before + length (g.start ++ news) + 1;
  cpu = cpu;
  event = event;
  reply = reply_of g.layout g.base g.before (g.start ++ news) cpu event;
}

-- the records after the processor has made its script's next call; None if it has no call to make
abbrev pub play_one : Setting → Option (List Record) → (cpu : ℕ) → Option (List Record)
play_one g None cpu = None
play_one g (Some news) cpu =
    option_map (λ event. news ++ record_of_call g news cpu event ∷ []) (next_call g cpu news)

-- the new records that a schedule leads to: each processor in turn makes its script's next call
unfoldable pub plays : Setting → List ℕ → Option (List Record)
plays g schedule = fold (play_one g) (Some []) schedule

-- the schedule that the new records follow
abbrev pub schedule_of : List Record → List ℕ
schedule_of news = map (λ r. r.cpu) news

-- the outcome after the new records: the processors' replies and the blocks' rows
unfoldable pub outcome_after : Setting → List Record → OutcomeValue
outcome_after g news = outcome (length g.scripts) news g.layout (value_of g.layout g.base (g.start ++ news))

-- the schedule is complete, with this outcome: each processor has a call to make at each of its turns,
-- and all scripts are finished at the end
pub record EndsWith (g : Setting) (schedule : List ℕ) (x : OutcomeValue) : Type 0 where
  pub news : List Record
  pub played : plays g schedule ≡ Some news
  pub over : (cpu : ℕ) → next_call g cpu news ≡ None
  pub ends : outcome_after g news ≡ x

-- the schedule is complete
abbrev pub IsComplete : Setting → List ℕ → Type 0
IsComplete g schedule = (x : OutcomeValue) × EndsWith g schedule x
