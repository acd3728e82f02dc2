-- A schedule as a scenario.
use Rattle.std.specs.Prelude.{ℕ, List, [], Option, Some, None}
use Rattle.hp_units.specs.LayoutParts.{LayoutParts}
use Rattle.hp_units.specs.declared.replies.Record.{Record}
use Rattle.hp_scenario.specs.declared.lines.Line.{Line}
use Rattle.hp_text.specs.Scenarios.{scenario_text}

-- the text of a schedule as a scenario: the setup's lines, then the schedule's calls. It is empty
-- if the schedule cannot be played
abbrev pub replayed_text : (names : List (List ℕ)) → (before : List Line) → LayoutParts
    → (calls : Option (List Record)) → List ℕ
replayed_text names before l None = []
replayed_text names before l (Some calls) = scenario_text l names before calls
