-- The trace of a scenario.
use Rattle.std.specs.Prelude.{ℕ, ◌≡◌, ◌+◌, ◌-◌, ◌^◌, nat_le, nat_lt, Bool, List, [], ◌∷◌, ◌++◌, codes, drop, length, take, None, if◌then◌else◌}
use Rattle.std.specs.Fmt.{decimal, format_spec, styled_decimal}
use Rattle.hp_text.specs.declared.escapes.Brackets.TheVariants.{Escaped}
use Rattle.hp_machine.specs.Machine.{MachineValue, booted}
use Rattle.hp_scenario.specs.Scenario.{ScenarioValue}
use Rattle.hp_scenario.specs.Asked.{asked_by}
use Rattle.hp_scenario.specs.declared.lines.Line.{Line}
use Rattle.hp_map.specs.Rows.{RowValue}
use Rattle.hp_trace.specs.Calls.{MakesWork}
use Rattle.hp_trace.specs.Rows.{AreDrawn, DrawsIf, Row, RowsValue, no_rows}
use Rattle.hp_trace.specs.RowsJoined.{IsJoinedText}
use Rattle.hp_trace_json.specs.Ascii.{AddsLine}
use Rattle.hp_text.specs.Lines.{shown_line}
use Rattle.hp_trace.specs.Views.{shows, whole_view}
use Rattle.hp_trace.specs.declared.rows.Form.{Form}
use Rattle.hp_trace.specs.declared.rows.Form.TheVariants.{Kept, Told, Written}
use Rattle.hp_trace.specs.declared.view.View.{View}

-- the text of a line with its number
abbrev pub numbered_text : (names : List (List ℕ)) → (number : ℕ) → Line → List ℕ
numbered_text names number line =
    styled_decimal (format_spec 32 3 0 4 (2 ^ 64 - 1)) number ++ codes " " ++ shown_line Escaped names line

-- the rows that lines make, one list per line; the first line has this number
abbrev pub MakesLines : (names : List (List ℕ)) → (number : ℕ) → MachineValue → List Line
    → (lists : List (List Row)) → (after : MachineValue) → Type 0
MakesLines names number m [] lists after = (after ≡ m) × (lists ≡ [])
MakesLines names number m (line ∷ lines) lists after =
    (next : MachineValue) × (rows : List Row) × (rest : List (List Row))
    × MakesWork m line.cpu (asked_by line.work) (numbered_text names number line) rows next
    × (lists ≡ rows ∷ rest)
    × MakesLines names (number + 1) next lines rest after

-- the rows of a line, if it is shown, or else none
abbrev pub rows_if : (is_shown : Bool) → List Row → List Row
rows_if is_shown rows = if is_shown then rows else []

-- the rows of the lines that are shown; the first line has this number
abbrev pub shown_rows : View → (number : ℕ) → (lists : List (List Row)) → List Row
shown_rows v number [] = []
shown_rows v number (rows ∷ rest) = rows_if (shows v number) rows ++ shown_rows v (number + 1) rest

-- the text of the first row, which shows the memory either at boot or before the first line that
-- may be shown
abbrev pub start_text : View → List ℕ
start_text v = if nat_le v.from 1 then codes "   0 boot" else codes "     before line " ++ decimal v.from

-- the first row was drawn, in this form
abbrev pub IsStart : (form : Form) → View → MachineValue → (rows : RowsValue) → Type 0
IsStart form v m rows = DrawsIf form m (start_text v) [] None (no_rows form) rows

-- the number of lines, among the first n, that come before the first line that may be shown
abbrev pub skipped : View → (n : ℕ) → ℕ
skipped v n = if nat_lt (v.from - 1) n then v.from - 1 else n

-- a line was run, and its rows were drawn if it is shown
pub record TracesLine (v : View) (names : List (List ℕ)) (number : ℕ) (m : MachineValue) (line : Line)
    (old new : RowsValue) (after : MachineValue) : Type 0 where
  pub rows : List Row
  pub made : MakesWork m line.cpu (asked_by line.work) (numbered_text names number line) rows after
  pub drawn : AreDrawn (rows_if (shows v number) rows) old new

-- lines were run after `before` earlier lines, and the rows of the lines that are shown were drawn
pub record TracesLines (v : View) (names : List (List ℕ)) (before : ℕ) (m : MachineValue) (lines : List Line)
    (old new : RowsValue) (after : MachineValue) : Type 0 where
  pub lists : List (List Row)
  pub made : MakesLines names (before + 1) m lines lists after
  pub drawn : AreDrawn (shown_rows v (before + 1) lists) old new

-- the lines before the first that may be shown were run from boot on. Then the row of the memory
-- was drawn in this form, and below it the rows of the other lines that are shown
pub record IsScenarioTraced (form : Form) (v : View) (s : ScenarioValue) (rows : RowsValue) : Type 0 where
  pub unseen : List (List Row)
  pub first : MachineValue
  pub begins :
      MakesLines s.names 1 (booted s.layout) (take (skipped v (length s.lines)) s.lines) unseen first
  pub start : RowsValue
  pub begun : IsStart form v first start
  pub machine : MachineValue
  pub traced :
      TracesLines v s.names (skipped v (length s.lines)) first (drop (skipped v (length s.lines)) s.lines)
      start rows machine

-- the text has all rows of a scenario's trace
pub record IsTraceOf (v : View) (s : ScenarioValue) (text : List ℕ) : Type 0 where
  pub rows : RowsValue
  pub traced : IsScenarioTraced Written v s rows
  pub written : text ≡ rows.text

-- `list` are the rows of a scenario's trace, as values
pub record AreRowsOf (v : View) (s : ScenarioValue) (list : List RowValue) : Type 0 where
  pub rows : RowsValue
  pub traced : IsScenarioTraced Kept v s rows
  pub kept : list ≡ rows.kept

-- the text has the rows of a scenario's trace, in which equal rounds are joined
pub record IsJoinedTraceOf (v : View) (s : ScenarioValue) (text : List ℕ) : Type 0 where
  pub list : List RowValue
  pub rows : AreRowsOf v s list
  pub joined : IsJoinedText list text

-- the text is a scenario's trace as JSON: a line about the scenario, and then the rows of all lines
pub record IsJsonOf (s : ScenarioValue) (text : List ℕ) : Type 0 where
  pub head : List ℕ
  pub begins : AddsLine [] head
  pub rows : RowsValue
  pub traced : IsScenarioTraced Told whole_view s rows
  pub is : text ≡ head ++ rows.json.text
