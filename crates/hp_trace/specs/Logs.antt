-- The log of a scenario's run from boot on, over all its histories. A seal ends a history.
use Rattle.std.specs.Prelude.{ℕ, ◌≡◌, ◌==◌, List, [], ◌∷◌, ◌++◌, if◌then◌else◌}
use Rattle.hp_units.specs.Arithmetic.{block_size}
use Rattle.hp_units.specs.Boot.{boot_memory}
use Rattle.hp_units.specs.declared.replies.Record.{Record}
use Rattle.hp_judge.specs.declared.events.LogEvent.{LogEvent}
use Rattle.hp_judge.specs.Logs.{log_of_all}
use Rattle.hp_machine.specs.Machine.{MachineValue, booted}
use Rattle.hp_scenario.specs.Asked.{asked_by}
use Rattle.hp_scenario.specs.Scenario.{ScenarioValue}
use Rattle.hp_scenario.specs.declared.lines.Line.{Line}
use Rattle.hp_trace.specs.Calls.{MakesWork}
use Rattle.hp_trace.specs.Rows.{AreDrawn, Row, RowsValue, drawing, words}

-- the rows that the lines make, without the texts of the lines
abbrev pub RunsLines : MachineValue → List Line → (rows : List Row) → (after : MachineValue) → Type 0
RunsLines m [] rows after = (after ≡ m) × (rows ≡ [])
RunsLines m (line ∷ lines) rows after =
    (next : MachineValue) × (now : List Row) × (later : List Row)
    × MakesWork m line.cpu (asked_by line.work) [] now next
    × (rows ≡ now ++ later)
    × RunsLines next lines later after

-- the histories of a machine and of the rows after it, one list of records per history. A seal has
-- ended a history if and only if the number of sealed records has changed
abbrev pub histories : MachineValue → List Row → List (List Record)
histories m [] = m.history ∷ []
histories m (words text ∷ rows) = histories m rows
histories m (drawing asked answer moved n ∷ rows) =
    if n.before == m.before then histories n rows else m.history ∷ histories n rows

-- the events are the log of all histories that the scenario's run makes
pub record IsLogOfScenario (s : ScenarioValue) (block_frames : ℕ) (events : List LogEvent) : Type 0 where
  pub rows : List Row
  pub machine : MachineValue
  pub run : RunsLines (booted s.layout) s.lines rows machine
  pub size : block_frames ≡ block_size s.layout
  pub is : events ≡ log_of_all s.layout (boot_memory s.layout) (histories (booted s.layout) rows)

-- lines were run, and their rows were drawn
pub record AreLinesDrawn (m : MachineValue) (lines : List Line) (old new : RowsValue) (after : MachineValue)
    : Type 0 where
  pub rows : List Row
  pub run : RunsLines m lines rows after
  pub drawn : AreDrawn rows old new
