use Rattle.std.proofs.Common.{◌≡◌, ◌++◌, string_bytes}
use Rattle.hp_units.specs.Pages.{frame_at, words_at}
use Rattle.hp_text.specs.State.{name_of, page_text, texts_below}
use Rattle.hp_text.proofs.state.pages.write_owner.Given as goal

abbrev pub invariant-loop-number : goal.invariant-loop-number
invariant-loop-number l =
    string_bytes l.out ≡ string_bytes l.fn.out ++ texts_below (λ page. page_text
    (name_of l.names.keys l.owner) page (frame_at l.image.memory.pages l.owner page)
    (words_at l.image.memory.pages l.owner page)) l.number
