use Rattle.std.proofs.Common.{◌≡◌, ◌++◌, string_bytes, slice_get}
use Rattle.hp_text.specs.State.{block_line, texts_below}
use Rattle.hp_text.proofs.state.write_blocks.Given as goal

abbrev pub invariant-loop-number : goal.invariant-loop-number
invariant-loop-number l =
    string_bytes l.out ≡ string_bytes l.fn.out
    ++ texts_below (λ block. block_line block (slice_get l.image.memory.blocks.rows block)) l.number
