use Rattle.std.proofs.Common.{◌≡◌, ◌+◌, ◌++◌, drop, string_bytes}
use Rattle.hp_search.specs.Prepared.{names_of, setting_of}
use Rattle.hp_parts.specs.Texts.{end_lines}
use Rattle.hp_parts.proofs.writing.write_ends.Given as goal

abbrev pub invariant-loop-index : goal.invariant-loop-index
invariant-loop-index l =
    string_bytes l.out
    ++ end_lines (names_of l.prepared) (setting_of l.prepared) (l.index + 1) (drop l.index l.ends)
    ≡ string_bytes l.fn.out ++ end_lines (names_of l.prepared) (setting_of l.prepared) 1 l.ends
