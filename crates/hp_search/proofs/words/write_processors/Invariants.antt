use Rattle.std.proofs.Common.{◌≡◌, ◌++◌, slice_get, string_bytes}
use Rattle.hp_text.specs.State.{texts_below}
use Rattle.hp_search.specs.Words.{answers_text}
use Rattle.hp_search.proofs.words.write_processors.Given as goal

abbrev pub invariant-loop-number : goal.invariant-loop-number
invariant-loop-number l =
    string_bytes l.out
    ≡ string_bytes l.fn.out ++ texts_below (λ cpu. answers_text cpu (slice_get l.replies cpu)) l.number
