use Rattle.std.proofs.Common.{◌≡◌, ◌++◌, string_bytes, slice_get}
use Rattle.hp_text.specs.State.{marked_word, texts_below}
use Rattle.hp_text.proofs.state.write_marked_words.Given as goal

abbrev pub invariant-loop-number : goal.invariant-loop-number
invariant-loop-number l =
    string_bytes l.out ≡ string_bytes l.fn.out ++ texts_below (λ pageblock.
    marked_word l.mark pageblock (slice_get l.image.memory.free.areas.kinds pageblock)) l.number
