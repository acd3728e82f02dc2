use Rattle.std.proofs.Common.{◌∙◌}
use Rattle.std.proofs.lemmas.Result.{err_from_is_err_and}
use Rattle.hp_pages.proofs.PageParts.{copied-more}
use Rattle.hp_pages.proofs.buffers.Buffers.copy.Goals as goal

pub returns-in_err-frames : goal.returns-in_err-frames
returns-in_err-frames c =
    rw (err_from_is_err_and c.from_residual.result c.from_residual.ensures.1).1 tt

pub returns-in_err-copy_if_any : goal.returns-in_err-copy_if_any
returns-in_err-copy_if_any c =
    let e = c.from_residual-in_err-copy_if_any in
    rw (err_from_is_err_and e.result e.ensures.1).1 tt

pub returns-in_err-push : goal.returns-in_err-push
returns-in_err-push c =
    let p = err_from_is_err_and c.from_residual-in_err-push.result c.from_residual-in_err-push.ensures.1 in
    rw p.1 tt

pub loop-words-preserved : goal.loop-words-preserved
loop-words-preserved c =
    copied-more c.args.self.now c.deref-words-items.result.now c.loop-words.frames.items c.push.new.self.items
    c.loop-words.words-index c.words-item.result c.in_ok-copy_if_any.field-0
    (c.deref-words-items.ensures.value ∙ c.self.view_is) c.loop-words-test.true c.words-item.is
    c.in_ok-copy_if_any.ensures.ok c.loop-words.invariant c.in_ok-push.ensures.items
