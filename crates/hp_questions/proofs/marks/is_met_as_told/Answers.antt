-- A refusal is told as it is.
use Rattle.std.specs.Prelude.{◌↔◌}
use Rattle.hp_units.specs.declared.replies.Refusal.{Refusal}
use Rattle.hp_units.specs.declared.replies.Reply.{Reply}
use Rattle.hp_units.specs.declared.replies.Reply.TheVariants.{Opened}
use Rattle.hp_schedules.specs.Outcomes.{told}
use Rattle.hp_questions.specs.Patterns.{IsKindOf}
use Rattle.hp_questions.proofs.marks.is_met_as_told.Goals as goal

kind_told : (wanted : Refusal) (reply : Reply) → IsKindOf wanted reply ↔ IsKindOf wanted (told reply)
kind_told wanted (Opened op) = (λ is. is, λ is. is)
kind_told wanted reply = (λ is. is, λ is. is)

pub returns-in-AnyOf : goal.returns-in-AnyOf
returns-in-AnyOf c =
    rw c.in-AnyOf.is (
      λ yes. (kind_told c.in-AnyOf.wanted c.args.reply.now).0 (c.is_of_kind.ensures.0 yes),
      λ is. c.is_of_kind.ensures.1 ((kind_told c.in-AnyOf.wanted c.args.reply.now).1 is),
    )
