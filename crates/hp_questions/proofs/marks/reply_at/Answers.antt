-- The record that comes after so many of the processor tells the reply.
use Rattle.std.proofs.Common.{◌≡◌, length, take, ap, sym, arith, ◌∙◌}
use Rattle.std.proofs.lemmas.List.{take_all}
use Rattle.std.proofs.lemmas.Option.{slice_get_past}
use Rattle.hp_schedules.specs.Outcomes.{replies_to}
use Rattle.hp_questions.proofs.Marking.{count_own, told_here, told_past}
use Rattle.hp_questions.proofs.marks.reply_at.Goals as goal

pub loop-record-preserved-then-ne : goal.loop-record-preserved-then-ne
loop-record-preserved-then-ne c =
    let same =
    told_past c.args.cpu _ _ _ c.loop-record-test.true c.record-item.is (sym c.ne.ensures ∙ c.if-ne.true) in
    omega (arith, ap length same, c.loop-record.invariant)

pub loop-record-preserved : goal.loop-record-preserved
loop-record-preserved c =
    let more =
    count_own c.args.cpu _ _ _ c.loop-record-test.true c.record-item.is (sym c.ne.ensures ∙ c.if-ne.false) in
    omega (arith, more, c.loop-record.invariant)

pub returns-then-left-eq0 : goal.returns-then-left-eq0
returns-then-left-eq0 c =
    let place : length (replies_to c.args.cpu (take c.loop-record.record-index c.args.records.now))
    ≡ c.args.earlier =
    omega (arith, c.loop-record.invariant, c.if-left-eq0.true) in
    rw (c.told.ensures, ← place)
    (sym (told_here c.args.cpu _ _ _ c.loop-record-test.true c.record-item.is
    (sym c.ne.ensures ∙ c.if-ne.false)))

pub returns : goal.returns
returns c =
    sym (slice_get_past (replies_to c.args.cpu c.args.records.now) c.args.earlier (omega (
      arith,
      rw (take_all c.loop-record.record-index c.args.records.now c.loop-record-test.false) at
          c.loop-record.invariant,
    )))
