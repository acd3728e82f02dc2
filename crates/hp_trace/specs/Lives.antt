-- A machine that goes on after a scenario, and the rows of the lines that follow.
use Rattle.std.specs.Prelude.{ℕ, ◌≡◌, ◌+◌, List, [], ◌∷◌, ◌++◌, length, map, Some}
use Rattle.hp_machine.specs.Machine.{MachineValue, booted}
use Rattle.hp_scenario.specs.Names.{Numbered, line_in}
use Rattle.hp_scenario.specs.Scenario.{ScenarioValue}
use Rattle.hp_scenario.specs.declared.lines.Line.{Line}
use Rattle.hp_trace.specs.Rows.{Row, RowsValue}
use Rattle.hp_trace.specs.Traces.{IsStart, IsTraceOf, MakesLines, TracesLine}
use Rattle.hp_trace.specs.declared.rows.Form.TheVariants.{Written}
use Rattle.hp_trace.specs.declared.view.View.{View}

-- a machine, the view of its lines, and the rows so far
pub record LiveValue : Type 0 where
  pub machine : MachineValue
  pub view : View
  pub rows : RowsValue

-- the scenario's lines were run from boot on, and then the row of the memory was written
pub record IsBegun (v : View) (s : ScenarioValue) (t : LiveValue) : Type 0 where
  pub same : t.view ≡ v
  pub lists : List (List Row)
  pub run : MakesLines s.names 1 (booted s.layout) s.lines lists t.machine
  pub begun : IsStart Written v t.machine t.rows

-- a line was run, and its rows were drawn if the view shows the line
pub record LivesOn (names : List (List ℕ)) (number : ℕ) (line : Line) (old new : LiveValue) : Type 0 where
  pub same : new.view ≡ old.view
  pub traced : TracesLine old.view names number old.machine line old.rows new.rows new.machine

-- the trace with an empty text
abbrev pub without_text : LiveValue → LiveValue
without_text t = record {
  machine = t.machine;
  view = t.view;
  rows = record {
    form = t.rows.form;
    text = [];
    kept = t.rows.kept;
    log = t.rows.log;
    json = t.rows.json;
    joiner = t.rows.joiner;
  };
}

-- ---- lines that come one after another

-- the lines were read from texts, each given the owners' names of the lines before it; `last` are
-- the names after the last line
abbrev pub AreRead : (names : List (List ℕ)) → List Numbered → (last : List (List ℕ)) → Type 0
AreRead names [] last = last ≡ names
AreRead names (n ∷ read) last = (text : List ℕ) × (line_in names text ≡ Some n) × AreRead n.names read last

-- the lines were run one after another, the first as line `number`, and the text was emptied before
-- each. `shown` are the texts after each line, joined
abbrev pub LivesThrough : (number : ℕ) → List Numbered → (shown : List ℕ) → (old new : LiveValue) → Type 0
LivesThrough number [] shown old new = (shown ≡ []) × (new ≡ old)
LivesThrough number (n ∷ read) shown old new =
    (next : LiveValue) × (later : List ℕ) × LivesOn n.names number n.line (without_text old) next
    × (shown ≡ next.rows.text ++ later) × LivesThrough (number + 1) read later next new

-- the scenario with more lines after its own; `last` are the owners' names after these lines
abbrev pub with_lines : ScenarioValue → List Numbered → (last : List (List ℕ)) → ScenarioValue
with_lines s read last =
    record { layout = s.layout; names = last; lines = s.lines ++ map (λ n. n.line) read }

-- the first row, and the rows shown for the lines after a scenario, are the rows of a trace. It is
-- the trace of the scenario with these lines at its end, in a view that begins with the first of
-- them
abbrev pub ShowTheTrace : Type 0
ShowTheTrace =
    (v : View) (s : ScenarioValue) (read : List Numbered) (last : List (List ℕ)) (shown : List ℕ)
    (begun now : LiveValue)
    → v.from ≡ length s.lines + 1 → IsBegun v s begun → AreRead s.names read last
    → LivesThrough (length s.lines + 1) read shown begun now
    → IsTraceOf v (with_lines s read last) (begun.rows.text ++ shown)
