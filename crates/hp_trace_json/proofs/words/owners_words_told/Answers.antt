use Rattle.std.proofs.Common.{◌≡◌, Some, ap, arith, ◌∙◌}
use Rattle.hp_trace_json.specs.Changes.{NoWords, PagesWordsTold, is_word}
use Rattle.hp_trace_json.specs.Parts.{words_in}
use Rattle.hp_trace_json.proofs.Parts.{owner_joins, words_at_as}
use Rattle.hp_trace_json.proofs.Tellings.{below_more, below_none, silent_both, silent_none}
use Rattle.hp_trace_json.proofs.words.owners_words_told.Goals as goal

pub loop-number-init : goal.loop-number-init
loop-number-init c =
    let o = c.args.owner in (
      below_none
          (λ page.
          PagesWordsTold o page (words_in c.args.was.now o page) (words_in (Some c.args.now.now) o page)
          c.args.now.now.layout.words)
          (NoWords o) (owner_joins c.args.was.now c.args.now.now o) c.new-told.result.items
          c.new-told.ensures.items,
      λ other differs page index. silent_none (is_word other page index) c.new-told.result.items
          c.new-told.ensures.items,
    )

pub loop-number-preserved : goal.loop-number-preserved
loop-number-preserved c =
    let o = c.args.owner in
    let n = c.loop-number.number in
    let was : c.words_in-old.result.now ≡ words_in c.args.was.now o n = c.words_in-old.ensures in
    let now : c.words_of-new.result.now ≡ words_in (Some c.args.now.now) o n = c.words_of-new.ensures in
    let count : c.words.result ≡ c.args.now.now.layout.words =
    c.words.ensures.is ∙ ap (λ l. l.words) c.layout-in-loop-number.ensures in
    let here =
    words_at_as o n _ _ _ _ _ _ _ was now count c.in_ok-of_page.ensures.told in (
      rw (c.in_ok-extend_from_slice.ensures.items, c.as_slice.ensures.value) (below_more
          (λ page.
          PagesWordsTold o page (words_in c.args.was.now o page) (words_in (Some c.args.now.now) o page)
          c.args.now.now.layout.words)
          (NoWords o) (owner_joins c.args.was.now c.args.now.now o) n _ _ c.loop-number.invariant.0 here
          (λ k other. c.in_ok-of_page.ensures.others o k (λ same e. other e))),
      λ other differs. rw (c.in_ok-extend_from_slice.ensures.items, c.as_slice.ensures.value) (λ page index.
          silent_both (is_word other page index) _ _ (c.loop-number.invariant.1 other differs page index)
          (c.in_ok-of_page.ensures.others other page (λ e same. differs e) index)),
    )

pub returns-clause-told : goal.returns-clause-told
returns-clause-told c =
    let end : c.pages-number-end.result ≡ c.args.now.now.layout.pages =
    c.pages-number-end.ensures.is ∙ ap (λ l. l.pages) c.layout.ensures in
    let all : c.loop-number.number ≡ c.args.now.now.layout.pages =
    omega (arith, end, c.loop-number-test.false, c.loop-number.auto.number-end) in
    rw (← all) c.loop-number.invariant.0
