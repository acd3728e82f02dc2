-- A record of the processor tells the next reply.
use Rattle.std.proofs.Common.{◌∙◌, refl, sym, arith}
use Rattle.std.proofs.lemmas.Bool.{iff_false}
use Rattle.std.proofs.lemmas.Option.{slice_get_read, slice_get_within}
use Rattle.hp_schedules.proofs.Compared.{told_here, told_more, told_past}
use Rattle.hp_schedules.proofs.outcomes.are_replies_to.Goals as goal
use Rattle.hp_schedules.proofs.outcomes.are_replies_to.Goals.{then-eq+else-not-is_told_at, else-eq}

pub returns-then-not-is_told_at : goal.returns-then-not-is_told_at
returns-then-not-is_told_at c = (
  λ yes. absurd cc,
  λ is. absurd (iff_false c.is_told_at.ensures c.if-not-is_told_at.true
      (told_here c.args.cpu c.args.replies.now c.args.records.now c.loop-record.compared
      c.loop-record.record-index c.record-item.result
      (slice_get_read _ _ _ _ refl c.loop-record-test.true c.record-item.is)
      (sym c.eq.ensures ∙ c.if-eq.true) c.loop-record.invariant.1 c.loop-record.invariant.0 is)),
)

pub loop-record-preserved : goal.loop-record-preserved
loop-record-preserved c =
    let here = slice_get_read _ _ _ _ refl c.loop-record-test.true c.record-item.is in
    elim c.if-eq.branch [
      | then-eq+else-not-is_told_at w ↦
          let told_next = w.is_told_at.ensures.0 w.if-not-is_told_at.false in
          rw w.compared-is (
            told_more c.args.cpu c.args.replies.now c.args.records.now c.loop-record.compared
                c.loop-record.record-index c.record-item.result here (sym c.eq.ensures ∙ w.if-eq.true)
                told_next
                c.loop-record.invariant.0,
            omega (arith, slice_get_within c.args.replies.now c.loop-record.compared _ told_next),
          )
      | else-eq w ↦
          rw w.compared-is (
            told_past c.args.cpu c.args.replies.now c.args.records.now c.loop-record.compared
                c.loop-record.record-index c.record-item.result here (sym c.eq.ensures ∙ w.if-eq.false)
                c.loop-record.invariant.0,
            c.loop-record.invariant.1,
          )
    ]
