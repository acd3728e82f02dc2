use Rattle.std.proofs.Common.{◌≡◌, ◌++◌, codes, drop, string_bytes, true}
use Rattle.hp_text.specs.Separated.{separated}
use Rattle.hp_search.specs.Objects.{block_string}
use Rattle.hp_search.proofs.objects.write_blocks.Given as goal

abbrev pub invariant-loop-row : goal.invariant-loop-row
invariant-loop-row l =
    string_bytes l.out ++ separated (codes ", ") block_string l.is_first (drop l.row-index l.rows)
    ≡ string_bytes l.fn.out ++ separated (codes ", ") block_string true l.rows
