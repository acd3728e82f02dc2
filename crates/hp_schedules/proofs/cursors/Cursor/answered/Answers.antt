-- The cursor's own line where it is a plan, and else the line before.
use Rattle.std.proofs.Common.{◌++◌, ◌∷◌, ◌∙◌, [], Some, ap, arith, sym}
use Rattle.hp_units.specs.declared.replies.Reply.{Reply}
use Rattle.hp_schedules.specs.LineAnswers.{answers_in}
use Rattle.hp_schedules.specs.declared.line_answers.LineAnswer.TheVariants.{Reply as Replied}
use Rattle.hp_schedules.proofs.Answered.{carried_answered, once_answered}
use Rattle.hp_schedules.proofs.cursors.Cursor.answered.Goals as goal

pub returns-then-is_carrying : goal.returns-then-is_carrying
returns-then-is_carrying c =
    λ cpus receipts r same asked is settled. rw c.carried.ensures
    (carried_answered cpus c.args.lines.now receipts r c.args.self.now is
    (sym c.is_carrying.ensures ∙ c.if-is_carrying.true))

pub returns-then-self-eq0 : goal.returns-then-self-eq0
returns-then-self-eq0 c =
    λ cpus receipts r same asked is settled. let once =
    once_answered cpus c.args.lines.now receipts r c.args.self.now r.event settled is
    (sym c.is_carrying.ensures ∙ c.if-is_carrying.false) asked in
    absurd (omega (arith, once.at, c.if-self-eq0.true))

pub returns : goal.returns
returns c =
    λ cpus receipts r same asked is settled. let once =
    once_answered cpus c.args.lines.now receipts r c.args.self.now r.event settled is
    (sym c.is_carrying.ensures ∙ c.if-is_carrying.false) asked in (
      omega (arith, once.at, once.many),
      once.more
          ∙ ap (λ (reply : Reply). answers_in cpus c.args.lines.now receipts ++ Some (Replied reply) ∷ [])
          same,
    )
