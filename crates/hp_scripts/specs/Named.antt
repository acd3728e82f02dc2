-- The scenario in a text with names, and the line whose result each of its lines works on.
use Rattle.std.specs.Prelude.{ℕ, ◌+◌, List, [], ◌∷◌, ◌++◌, length, Option, None, Result, Ok, option_map, replicate}
use Rattle.serde_json.specs.Data.{Data}
use Rattle.hp_units.specs.LayoutParts.{layout_fault}
use Rattle.hp_scenario.specs.Form.{Form, form_of, form_with}
use Rattle.hp_units.specs.LayoutParts.{LayoutParts}
use Rattle.hp_scenario.specs.Gives.{◌>>=◌, or_fault}
use Rattle.hp_scenario.specs.Names.{Numbered, line_in}
use Rattle.hp_scenario.specs.Scenario.{ScenarioValue, json_of, layout_or}
use Rattle.hp_scenario.specs.declared.lines.Line.{Line}
use Rattle.hp_scenario.specs.declared.fault.ScenarioFault.{ScenarioFault}
use Rattle.hp_scenario.specs.declared.fault.ScenarioFault.TheVariants.{NotJson, BadShape, BadLine}
use Rattle.hp_scripts.specs.Bindings.{Bound, bound_after}
use Rattle.hp_scripts.specs.Plain.{plain_in}
use Rattle.hp_scripts.specs.declared.plain.PlainLine.{PlainLine}

-- a scenario with names. For each line that works by name on the result of an earlier line,
-- `sources` has the index of the earlier line. Such a line has 0 in place of that result's number.
-- `bound` are the bindings of names after the last line
pub record NamedValue : Type 0 where
  pub scenario : ScenarioValue
  pub sources : List (Option ℕ)
  pub bound : Bound

-- a scenario without names: no line names its result, or works on a result by its name
abbrev pub plainly : ScenarioValue → NamedValue
plainly s = record { scenario = s; sources = replicate (length s.lines) None; bound = [] }

-- what is read so far: the owners' names, the lines, the indices of the lines whose results they
-- work on by name, and the bindings of names
pub record ReadingValue : Type 0 where
  pub names : List (List ℕ)
  pub lines : List Line
  pub sources : List (Option ℕ)
  pub bound : Bound

-- what is read before the first line
abbrev pub nothing : ReadingValue
nothing = record { names = []; lines = []; sources = []; bound = [] }

-- what is read after one more line; the number of the line's result is not known yet
abbrev pub with_line : ReadingValue → PlainLine → Numbered → ReadingValue
with_line r plain n = record {
  names = n.names;
  lines = r.lines ++ n.line ∷ [];
  sources = r.sources ++ plain.source ∷ [];
  bound = bound_after r.bound plain.naming (length r.lines) 0;
}

-- what is read after one more line; None if its text without names cannot be read as a line
abbrev pub with_plain : ReadingValue → PlainLine → Option ReadingValue
with_plain r plain = option_map (with_line r plain) (line_in r.names plain.text)

-- what is read after one more text; None if the text, with its names taken out, cannot be read as a
-- line
abbrev pub with_text : ReadingValue → List ℕ → Option ReadingValue
with_text r text = with_plain r (plain_in r.bound text)

-- what is read after these texts, of which the first is line `at`, or the first fault
unfoldable pub lines_from : ℕ → ReadingValue → List (List ℕ) → Result ReadingValue ScenarioFault
lines_from at r [] = Ok r
lines_from at r (text ∷ texts) =
    or_fault (BadLine at) (with_text r text) >>= λ next. lines_from (at + 1) next texts

-- the scenario of a layout's parts and the lines' texts, or its first fault: the layout is checked
-- before the lines
unfoldable pub named_with : Form → Result NamedValue ScenarioFault
named_with form = do
  layout ← layout_or form.parts (layout_fault form.parts)
  r ← lines_from 1 nothing form.calls
  Ok (record {
    scenario = record { layout = layout; names = r.names; lines = r.lines };
    sources = r.sources;
    bound = r.bound;
  })

-- the scenario of a layout's parts and the lines' texts; BadShape if either is missing
abbrev pub named_if : Option LayoutParts → Option (List (List ℕ)) → Result NamedValue ScenarioFault
named_if parts calls = or_fault BadShape (form_with parts calls) >>= named_with

-- the scenario in a JSON value, or its first fault: the shape is checked before the layout and the
-- lines
unfoldable pub named_of : Data → Result NamedValue ScenarioFault
named_of d = or_fault BadShape (form_of d) >>= named_with

-- the scenario in a text, or the first fault
unfoldable pub named_in : List ℕ → Result NamedValue ScenarioFault
named_in bytes = or_fault NotJson (json_of bytes) >>= named_of
