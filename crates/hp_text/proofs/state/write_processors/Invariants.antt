use Rattle.std.proofs.Common.{◌≡◌, ◌++◌, string_bytes}
use Rattle.hp_text.specs.State.{processor_lists_text, texts_below}
use Rattle.hp_text.proofs.state.write_processors.Given as goal

abbrev pub invariant-loop-number : goal.invariant-loop-number
invariant-loop-number l =
    string_bytes l.out
    ≡ string_bytes l.fn.out ++ texts_below (processor_lists_text l.image.memory.free) l.number
