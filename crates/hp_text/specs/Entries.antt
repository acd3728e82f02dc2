-- Lines and calls as the strings of a scenario's `calls`, one per line, separated by commas.
use Rattle.std.specs.Prelude.{ℕ, ◌==◌, true, List, ◌++◌, codes, length}
use Rattle.hp_units.specs.declared.replies.Record.{Record}
use Rattle.hp_text.specs.Spelling.{call_text}
use Rattle.hp_scenario.specs.declared.lines.Line.{Line}
use Rattle.hp_text.specs.Lines.{line_text}
use Rattle.hp_text.specs.Separated.{separated}

-- a line, and a call, between quotation marks
abbrev pub line_entry : (names : List (List ℕ)) → Line → List ℕ
line_entry names line = codes "\"" ++ line_text names line ++ codes "\""

abbrev pub call_entry : (names : List (List ℕ)) → Record → List ℕ
call_entry names r = codes "\"" ++ call_text names r.cpu r.event ++ codes "\""

-- the entries of calls, separated by `between`
abbrev pub calls_text : (between : List ℕ) → (names : List (List ℕ)) → List Record → List ℕ
calls_text between names calls = separated between (call_entry names) true calls

-- the entries of the lines, then those of the calls
abbrev pub entries_text : (names : List (List ℕ)) → List Line → List Record → List ℕ
entries_text names lines calls =
    separated (codes ",\n") (line_entry names) true lines
    ++ separated (codes ",\n") (call_entry names) (length lines == 0) calls
