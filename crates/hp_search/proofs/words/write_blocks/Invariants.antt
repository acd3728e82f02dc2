use Rattle.std.proofs.Common.{◌≡◌, ◌++◌, slice_get, string_bytes}
use Rattle.hp_text.specs.State.{block_line, texts_below}
use Rattle.hp_search.proofs.words.write_blocks.Given as goal

abbrev pub invariant-loop-number : goal.invariant-loop-number
invariant-loop-number l =
    string_bytes l.out
    ≡ string_bytes l.fn.out ++ texts_below (λ block. block_line block (slice_get l.rows block)) l.number
