use Rattle.std.proofs.Common.{◌≡◌, List, ℕ, OnOk, Some, ap, arith, subst, sym, ◌∙◌}
use Rattle.std.specs.Option.{option_map}
use Rattle.hp_units.specs.Pages.{frame_at, words_at}
use Rattle.hp_pages.specs.Pages.{words_in, words_of}
use Rattle.hp_states.proofs.Words.{mapped_behind, words_are}
use Rattle.hp_states.proofs.memories.put_page.Goals as goal

pub returns-in_ok-number-in-Some : goal.returns-in_ok-number-in-Some
returns-in_ok-number-in-Some c =
    let l = c.args.memory.now.layout in
    let s = c.args.memory.now.state in
    let v = c.pages-pages.result.now in
    let here : Some c.words_in.result.now ≡ words_of v.layout v.pages c.args.owner c.args.page =
    ap Some c.words_in.ensures.words
    ∙ ap (option_map (words_in v.layout v.pages)) (sym c.in-Some.is ∙ c.frame_at.ensures.frame) in
    let words =
    words_are l s v c.args.owner c.args.page _ c.is_placed.ensures.layout c.is_placed.ensures.placed
    c.pages-pages.ensures.value here in
    let mapped =
    mapped_behind l (frame_at s.pages c.args.owner c.args.page) (words_at s.pages c.args.owner c.args.page)
    c.in-Some.frame c.from.result c.words_in.result.now c.args.code.now _
    (c.is_placed.ensures.placed.in_order.words c.args.owner c.args.page)
    (sym (rw c.pages-pages.ensures.value at c.frame_at.ensures.frame) ∙ c.in-Some.is) (sym words)
    (omega (arith, c.from.ensures, c.frame.view_is)) c.in_ok-number-in-Some.ensures in
    subst (λ (code : List ℕ). OnOk c.numbers.result (c.numbers.new.self ≡ code)) mapped c.numbers.ensures
