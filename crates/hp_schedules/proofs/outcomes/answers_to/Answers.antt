-- What one record more tells.
use Rattle.std.proofs.Common.{◌∙◌, refl, sym}
use Rattle.std.proofs.lemmas.Bool.{not-false, not-true}
use Rattle.std.proofs.lemmas.Option.{slice_get_read}
use Rattle.hp_schedules.proofs.Compared.{replies_own, replies_past}
use Rattle.hp_schedules.proofs.outcomes.answers_to.Goals as goal

pub loop-record-preserved-then-ne : goal.loop-record-preserved-then-ne
loop-record-preserved-then-ne c =
    replies_past c.args.cpu c.loop-record.replies.items c.args.records.now c.loop-record.record-index
    c.record-item.result
    (slice_get_read _ _ _ _ refl c.loop-record-test.true c.record-item.is)
    (not-true _ (sym c.ne.ensures ∙ c.if-ne.true))
    c.loop-record.invariant

pub loop-record-preserved : goal.loop-record-preserved
loop-record-preserved c =
    let here = slice_get_read _ _ _ _ refl c.loop-record-test.true c.record-item.is in
    rw (c.push_reserved.ensures.items, c.in_ok-reserve.ensures.items, c.told.ensures)
    (replies_own c.args.cpu c.loop-record.replies.items c.args.records.now c.loop-record.record-index
    c.record-item.result here (not-false _ (sym c.ne.ensures ∙ c.if-ne.false)) c.loop-record.invariant)
