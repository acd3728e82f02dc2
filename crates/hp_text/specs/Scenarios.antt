-- A whole scenario as JSON.
use Rattle.std.specs.Prelude.{ℕ, List, ◌++◌, codes}
use Rattle.hp_units.specs.LayoutParts.{LayoutParts}
use Rattle.hp_units.specs.declared.replies.Record.{Record}
use Rattle.hp_scenario.specs.declared.lines.Line.{Line}
use Rattle.hp_text.specs.Entries.{entries_text}
use Rattle.hp_text.specs.Layouts.{layout_text}

-- what comes before the lines
unfoldable pub head_text : LayoutParts → List ℕ
head_text layout = codes "{\"layout\": " ++ layout_text layout ++ codes ",\n\"calls\": [\n"

-- an object with `layout`, and with `calls`: the lines, then one line per call
abbrev pub scenario_text : LayoutParts → (names : List (List ℕ)) → List Line → List Record → List ℕ
scenario_text layout names lines calls =
    head_text layout ++ entries_text names lines calls ++ codes "\n]}\n"
