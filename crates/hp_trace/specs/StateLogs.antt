-- The log of a memory whose states are seen one after another.
use Rattle.std.specs.Prelude.{◌≡◌, List, [], ◌++◌, Option, Some, None}
use Rattle.hp_units.specs.Memory.{Memory}
use Rattle.hp_judge.specs.declared.events.LogEvent.{LogEvent}
use Rattle.hp_judge.specs.Logs.{step_log}
use Rattle.hp_machine.specs.Machine.{MachineValue}
use Rattle.hp_judge.specs.Snapshots.{Shows, SnapshotValue, snapshot_of}

-- the events so far, and a snapshot of the state that they lead to; before the first state there is
-- no snapshot
pub record LogValue : Type 0 where
  pub seen : Option SnapshotValue
  pub events : List LogEvent

-- the log before the first state
abbrev pub no_log : LogValue
no_log = record { seen = None; events = [] }

-- the events of the step from the last state that was seen to the machine's state; none for the
-- first state
abbrev pub IsStepFrom : MachineValue → Option SnapshotValue → List LogEvent → Type 0
IsStepFrom m None events = events ≡ []
IsStepFrom m (Some seen) events =
    (s : Memory) → Shows m.layout s seen → events ≡ step_log m.layout s m.state

-- the machine's state was seen, and the events that lead to it were added to the log
pub record IsLogged (m : MachineValue) (old new : LogValue) : Type 0 where
  pub shows : Shows m.layout m.state (snapshot_of m.layout m.state)
  pub events : List LogEvent
  pub step : IsStepFrom m old.seen events
  pub is : new ≡ record { seen = Some (snapshot_of m.layout m.state); events = old.events ++ events }
