-- Only processors below the number have replies at the end.
use Rattle.std.proofs.Common.{arith, subst}
use Rattle.hp_schedules.specs.Outcomes.{replies_to}
use Rattle.hp_questions.specs.Wanted.{HasReply}
use Rattle.hp_questions.proofs.Below.{told_no}
use Rattle.hp_questions.proofs.Marking.{below_at, below_is}
use Rattle.hp_questions.proofs.marks.is_answered.Goals as goal

pub returns-then-cpu-processors : goal.returns-then-cpu-processors
returns-then-cpu-processors c =
    told_no _ (λ all.
    let has = rw c.in-Some.is at all in
    let is = below_is c.args.processors c.args.records.now c.in-Some.cpu has.0 has.1 in
    omega (arith, is.0, c.if-cpu-processors.true, c.cpu.view_is))

pub returns-else-cpu-processors : goal.returns-else-cpu-processors
returns-else-cpu-processors c =
    let n = c.args.processors in
    let news = c.args.records.now in
    let cpu = c.in-Some.cpu in
    rw c.in-Some.is (
      λ yes. (
        replies_to cpu news,
        below_at n news cpu (omega (arith, c.if-cpu-processors.false, c.cpu.view_is)),
        c.is_told.ensures.0 yes,
      ),
      λ has. c.is_told.ensures.1
          (subst (HasReply c.args.reply.now) (below_is n news cpu has.0 has.1).1 has.2),
    )
