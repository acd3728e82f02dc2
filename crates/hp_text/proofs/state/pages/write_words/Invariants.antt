use Rattle.std.proofs.Common.{◌≡◌, ◌++◌, string_bytes, take}
use Rattle.std.specs.List.{flat_map}
use Rattle.hp_text.specs.State.{number_word}
use Rattle.hp_text.proofs.state.pages.write_words.Given as goal

abbrev pub invariant-loop-word : goal.invariant-loop-word
invariant-loop-word l =
    string_bytes l.out ≡ string_bytes l.fn.out ++ flat_map number_word (take l.word-index l.words)
