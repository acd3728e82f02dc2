use Rattle.std.proofs.Common.{◌≡◌, Some}
use Rattle.hp_trace_json.specs.Changes.{SetsFrame, is_page}
use Rattle.hp_trace_json.specs.Parts.{page_in}
use Rattle.hp_trace_json.proofs.Equal.{are_keys, first_other, last_other}
use Rattle.hp_trace_json.proofs.Tellings.{silent_added, silent_none, values_more, values_none}
use Rattle.hp_trace_json.proofs.frames.owners_pages_told.Goals as goal

pub loop-number-init : goal.loop-number-init
loop-number-init c =
    let o = c.args.owner in (
      values_none (is_page o) SetsFrame (page_in c.args.was.now o) (page_in (Some c.args.now.now) o)
          c.new-told.result.items c.new-told.ensures.items,
      λ other differs page. silent_none (is_page other page) c.new-told.result.items c.new-told.ensures.items,
    )

pub loop-number-preserved : goal.loop-number-preserved
loop-number-preserved c =
    let n = c.loop-number.number in
    let o = c.args.owner in (
      values_more (is_page o) SetsFrame (page_in c.args.was.now o) (page_in (Some c.args.now.now) o)
          (λ x. (x.owner ≡ o) × (x.page ≡ n)) n c.page_in.result c.frame_at-frame.result _ _ c.page_in.ensures
          c.frame_at-frame.ensures (λ x e. are_keys x.owner x.page o n e.0 e.1)
          (λ k x other e. last_other x.owner x.page o n k e.1 other) c.loop-number.invariant.0
          c.in_ok-tell_page.ensures,
      λ other differs page. silent_added (is_page other page) (λ x. (x.owner ≡ o) × (x.page ≡ n)) SetsFrame
          c.page_in.result c.frame_at-frame.result _ _
          (λ x e. first_other x.owner x.page o other page e.0 differs)
          (c.loop-number.invariant.1 other differs page) c.in_ok-tell_page.ensures,
    )
