-- One record more that tells no such reply; else it is the one.
use Rattle.std.proofs.Common.{◌∙◌, subst, sym}
use Rattle.std.proofs.lemmas.Bool.{eq-eqb, eqb-true, false≢true, iff_false}
use Rattle.std.proofs.lemmas.List.{take_all}
use Rattle.hp_schedules.specs.Outcomes.{replies_to}
use Rattle.hp_questions.specs.Wanted.{HasReply}
use Rattle.hp_questions.proofs.Below.{told_no, told_yes}
use Rattle.hp_questions.proofs.Marking.{none_more, told_match_own}
use Rattle.hp_questions.proofs.marks.is_told.Goals as goal

pub loop-record-preserved-then-not-is_met_as_told : goal.loop-record-preserved-then-not-is_met_as_told
loop-record-preserved-then-not-is_met_as_told c = record {
  none = none_more _ _ _ c.loop-record-test.true c.record-item.is c.args.reply.now c.args.cpu
      (λ same matches. iff_false c.is_met_as_told.ensures c.if-not-is_met_as_told.true matches)
      c.loop-record.invariant.none;
}

pub loop-record-preserved : goal.loop-record-preserved
loop-record-preserved c = record {
  none = none_more _ _ _ c.loop-record-test.true c.record-item.is c.args.reply.now c.args.cpu
      (λ same matches. false≢true (sym c.if-eq.false ∙ (c.eq.ensures ∙ eq-eqb _ _ same)))
      c.loop-record.invariant.none;
}

pub returns-then-eq : goal.returns-then-eq
returns-then-eq c =
    told_yes _ (subst (λ cpu. HasReply c.args.reply.now (replies_to cpu c.args.records.now))
    (eqb-true _ _ (sym c.eq.ensures ∙ c.if-eq.true))
    (told_match_own _ _ _ c.loop-record-test.true c.record-item.is c.args.reply.now
    (c.is_met_as_told.ensures.0 c.if-not-is_met_as_told.false)))

pub returns : goal.returns
returns c =
    told_no _ (rw (take_all c.loop-record.record-index c.args.records.now c.loop-record-test.false) at
    c.loop-record.invariant.none)
