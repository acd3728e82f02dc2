use Rattle.std.proofs.Common.{◌≡◌, ◌++◌, codes, drop, string_bytes, true}
use Rattle.hp_text.specs.Entries.{line_entry}
use Rattle.hp_text.specs.Separated.{separated}
use Rattle.hp_text.proofs.entries.write_lines.Given as goal

abbrev pub invariant-loop-line : goal.invariant-loop-line
invariant-loop-line l =
    string_bytes l.out
    ++ separated (codes ",\n") (line_entry l.names.keys) l.is_first (drop l.line-index l.lines)
    ≡ string_bytes l.fn.out ++ separated (codes ",\n") (line_entry l.names.keys) true l.lines
