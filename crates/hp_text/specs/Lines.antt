-- Lines of a scenario's `calls`.
use Rattle.std.specs.Prelude.{ℕ, List, ◌++◌, codes}
use Rattle.std.specs.Fmt.{decimal}
use Rattle.hp_text.specs.Escapes.{escaped_text}
use Rattle.hp_text.specs.declared.escapes.Brackets.{Brackets}
use Rattle.hp_text.specs.declared.escapes.Brackets.TheVariants.{Kept}
use Rattle.hp_scenario.specs.declared.lines.Line.{Line}
use Rattle.hp_scenario.specs.declared.lines.Work.{Work}
use Rattle.hp_scenario.specs.declared.lines.Work.TheVariants as work
use Rattle.hp_text.specs.Spelling.{event_text, plan_text}

-- the text of a line's work. Square brackets in the word of an `echo`, and in the path of an `echo` or
-- a `cat`, are kept or escaped
abbrev pub shown_work : Brackets → (names : List (List ℕ)) → Work → List ℕ
shown_work brackets names (work.Event event) = event_text names event
shown_work brackets names (work.Plan items turns) = plan_text items turns
shown_work brackets names (work.Echo echo) =
    codes "echo " ++ escaped_text brackets echo.word ++ codes " " ++ escaped_text brackets echo.path
shown_work brackets names (work.Cat path) = codes "cat " ++ escaped_text brackets path
shown_work brackets names work.Seal = codes "seal"

-- a line: its processor, then its work
abbrev pub shown_line : Brackets → (names : List (List ℕ)) → Line → List ℕ
shown_line brackets names line = decimal line.cpu ++ codes " " ++ shown_work brackets names line.work

-- a line as a scenario has it: brackets are kept
abbrev pub line_text : (names : List (List ℕ)) → Line → List ℕ
line_text names line = shown_line Kept names line
