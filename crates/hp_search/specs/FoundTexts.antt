-- The texts for a schedule that was found, for none, and for a search that was ended.
use Rattle.std.specs.Prelude.{ℕ, List, [], Option, codes}
use Rattle.hp_units.specs.LayoutParts.{LayoutParts}
use Rattle.hp_units.specs.declared.replies.Record.{Record}
use Rattle.hp_schedules.specs.Schedules.{Setting, plays}
use Rattle.hp_explore.specs.Changes.{changes}
use Rattle.hp_scenario.specs.declared.lines.Line.{Line}
use Rattle.hp_search.specs.Objects.{found_object}
use Rattle.hp_search.specs.Replays.{replayed_text}
use Rattle.hp_search.specs.Words.{nearest_text}
use Rattle.hp_search.specs.declared.forms.ScheduleForm.{ScheduleForm}
use Rattle.hp_search.specs.declared.forms.ScheduleForm.TheVariants.{Words, Object, Scenario}

-- the text of a schedule in a form; `calls` is None if it cannot be played
abbrev pub schedule_text : ScheduleForm → (names : List (List ℕ)) → (before : List Line) → LayoutParts
    → (schedule : List ℕ) → (calls : Option (List Record)) → List ℕ
schedule_text Words names before l schedule calls = nearest_text names (changes schedule) calls
schedule_text Object names before l schedule calls = found_object names (changes schedule) calls
schedule_text Scenario names before l schedule calls = replayed_text names before l calls

-- the text of a schedule that was found
abbrev pub found_text : ScheduleForm → (names : List (List ℕ)) → (before : List Line) → Setting
    → (schedule : List ℕ) → List ℕ
found_text form names before g schedule =
    schedule_text form names before g.layout schedule (plays g schedule)

-- the text if no interleaving ends as wanted; as a scenario it is empty
abbrev pub absent_told : ScheduleForm → List ℕ
absent_told Words = codes "ends so: 0\n"
absent_told Object = codes "{\"found\": false}\n"
absent_told Scenario = []

-- the text if it is not known whether any interleaving ends as wanted; as a scenario it is empty
abbrev pub unknown_told : ScheduleForm → List ℕ
unknown_told Words = codes "ends so: unknown\n"
unknown_told Object = codes "{\"found\": null}\n"
unknown_told Scenario = []
