use Rattle.std.proofs.Common.{◌≡◌, ◌++◌, string_bytes}
use Rattle.hp_text.specs.State.{owner_text, texts_below}
use Rattle.hp_text.proofs.state.pages.write_pages.Given as goal

abbrev pub invariant-loop-number : goal.invariant-loop-number
invariant-loop-number l =
    string_bytes l.out ≡ string_bytes l.fn.out
    ++ texts_below (owner_text l.image.layout l.names.keys l.image.memory.pages) l.number
