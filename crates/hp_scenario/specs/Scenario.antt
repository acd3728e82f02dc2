-- The scenario in a text, or why there is none.
use Rattle.std.specs.Prelude.{ℕ, ◌+◌, List, [], ◌∷◌, ◌++◌, Option, Some, None, Result, Ok, Err, if◌then◌else◌}
use Rattle.std.specs.Str.{is_utf8}
use Rattle.serde_json.specs.Data.{Data}
use Rattle.serde_json.specs.Read.{read}
use Rattle.hp_units.specs.LayoutParts.{LayoutParts, layout_fault}
use Rattle.hp_units.specs.declared.layouts.LayoutFault.{LayoutFault}
use Rattle.hp_scenario.specs.Form.{Form, form_of, form_with}
use Rattle.hp_scenario.specs.Gives.{◌>>=◌, or_fault}
use Rattle.hp_scenario.specs.Names.{Numbered, line_in}
use Rattle.hp_scenario.specs.declared.lines.Line.{Line}
use Rattle.hp_scenario.specs.declared.fault.ScenarioFault.{ScenarioFault}
use Rattle.hp_scenario.specs.declared.fault.ScenarioFault.TheVariants.{NotJson, BadShape, Layout, BadLine}

-- a layout, the owners' names in the order of their numbers, and the lines
pub record ScenarioValue : Type 0 where
  pub layout : LayoutParts
  pub names : List (List ℕ)
  pub lines : List Line

-- the names and the lines so far
pub record Script : Type 0 where
  pub names : List (List ℕ)
  pub lines : List Line

abbrev pub nothing : Script
nothing = record { names = []; lines = [] }

-- the script with one more line, and with the names after it
abbrev pub with_line : Script → Numbered → Script
with_line script n = record { names = n.names; lines = script.lines ++ n.line ∷ [] }

-- the lines so far and then those in the texts, of which the first has number `at`
unfoldable pub lines_from : ℕ → Script → List (List ℕ) → Result Script ScenarioFault
lines_from at script [] = Ok script
lines_from at script (text ∷ texts) =
    or_fault (BadLine at) (line_in script.names text) >>= λ n. lines_from (at + 1) (with_line script n) texts

-- a layout's parts, or their first fault
abbrev pub layout_or : LayoutParts → Option LayoutFault → Result LayoutParts ScenarioFault
layout_or parts None = Ok parts
layout_or parts (Some fault) = Err (Layout fault)

-- the scenario of a form, or the first fault: the layout's, then the lines'
unfoldable pub scenario_with : Form → Result ScenarioValue ScenarioFault
scenario_with form = do
  layout ← layout_or form.parts (layout_fault form.parts)
  script ← lines_from 1 nothing form.calls
  Ok (record { layout = layout; names = script.names; lines = script.lines })

-- the scenario of parts and texts; a bad shape if one is missing
abbrev pub scenario_if : Option LayoutParts → Option (List (List ℕ)) → Result ScenarioValue ScenarioFault
scenario_if parts calls = or_fault BadShape (form_with parts calls) >>= scenario_with

-- the scenario in a JSON value, or the first fault: the shape's before all others
unfoldable pub scenario_of : Data → Result ScenarioValue ScenarioFault
scenario_of d = or_fault BadShape (form_of d) >>= scenario_with

-- the JSON value of a text in UTF-8
unfoldable pub json_of : List ℕ → Option Data
json_of bytes = if is_utf8 bytes then read bytes else None

-- the scenario in a text, or the first fault
unfoldable pub scenario_in : List ℕ → Result ScenarioValue ScenarioFault
scenario_in bytes = or_fault NotJson (json_of bytes) >>= scenario_of
