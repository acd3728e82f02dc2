-- One record more that tells no such reply; else it is the one.
use Rattle.std.proofs.Common.{ap, arith, subst, sym}
use Rattle.std.proofs.lemmas.Bool.{iff_false}
use Rattle.std.proofs.lemmas.List.{take_all}
use Rattle.hp_units.specs.declared.replies.Record.{Record}
use Rattle.hp_schedules.specs.Outcomes.{replies_to, told}
use Rattle.hp_questions.specs.Patterns.{IsAsWanted}
use Rattle.hp_questions.specs.Wanted.{HasReply}
use Rattle.hp_questions.proofs.Below.{told_no, told_yes}
use Rattle.hp_questions.proofs.Marking.{below_at, below_is, none_below_more, told_match_own}
use Rattle.hp_questions.proofs.marks.is_told_to_any.Goals as goal

pub loop-record-preserved-then-not-is_met_as_told : goal.loop-record-preserved-then-not-is_met_as_told
loop-record-preserved-then-not-is_met_as_told c = record {
  none = none_below_more _ _ _ c.loop-record-test.true c.record-item.is c.args.reply.now c.args.processors
      (λ low matches. iff_false c.is_met_as_told.ensures c.if-not-is_met_as_told.true
      (subst (IsAsWanted c.args.reply.now) (ap (λ (r : Record). told r.reply) (sym c.record.view_is))
      matches)) c.loop-record.invariant.none;
}

pub loop-record-preserved : goal.loop-record-preserved
loop-record-preserved c = record {
  none = none_below_more _ _ _ c.loop-record-test.true c.record-item.is c.args.reply.now c.args.processors
      (λ low. absurd (omega (
        arith,
        low,
        c.if-record-processors.false,
        ap (λ (r : Record). r.cpu) c.record.view_is,
      ))) c.loop-record.invariant.none;
}

pub returns-then-record-processors : goal.returns-then-record-processors
returns-then-record-processors c =
    let cpu = c.record-item.result.cpu in
    told_yes _ (
      cpu,
      replies_to cpu c.args.records.now,
      below_at c.args.processors c.args.records.now cpu (omega (
        arith,
        c.if-record-processors.true,
        ap (λ (r : Record). r.cpu) c.record.view_is,
      )),
      told_match_own _ _ _ c.loop-record-test.true c.record-item.is c.args.reply.now
          (subst (IsAsWanted c.args.reply.now) (ap (λ (r : Record). told r.reply) c.record.view_is)
          (c.is_met_as_told.ensures.0 c.if-not-is_met_as_told.false)),
    )

pub returns : goal.returns
returns c =
    told_no _ (λ has.
    let is = below_is c.args.processors c.args.records.now has.0 has.1 has.2 in
    (rw (take_all c.loop-record.record-index c.args.records.now c.loop-record-test.false) at
    c.loop-record.invariant.none) has.0 is.0 (subst (HasReply c.args.reply.now) is.1 has.3))
