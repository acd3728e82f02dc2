-- The reply at its place decides, if the processor is one of them.
use Rattle.std.proofs.Common.{arith, sym, ◌∙◌}
use Rattle.hp_questions.proofs.Below.{told_no}
use Rattle.hp_questions.proofs.Marking.{below_is}
use Rattle.hp_questions.proofs.MarksMade.{told_at_none, told_at_some}
use Rattle.hp_questions.proofs.marks.is_answered_at.Goals as goal

pub returns-then-cpu-processors : goal.returns-then-cpu-processors
returns-then-cpu-processors c =
    told_no _ (λ has.
    let is = below_is c.args.processors c.args.records.now c.args.cpu has.0 has.1 in
    omega (arith, is.0, c.if-cpu-processors.true, c.cpu.view_is))

pub returns-in-Some : goal.returns-in-Some
returns-in-Some c =
    told_at_some c.args.reply.now c.args.processors c.args.records.now c.args.cpu c.args.earlier
    c.in-Some.answer c.is_met_by.result (omega (arith, c.if-cpu-processors.false, c.cpu.view_is))
    (sym c.in-Some.is ∙ c.reply_at.ensures) c.is_met_by.ensures

pub returns-in-None : goal.returns-in-None
returns-in-None c =
    told_no _ (told_at_none c.args.reply.now c.args.processors c.args.records.now c.args.cpu c.args.earlier
    (sym c.in-None.is ∙ c.reply_at.ensures))
