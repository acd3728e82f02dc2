-- Whether it tells the reply that is there.
use Rattle.std.proofs.Common.{Some, length, refl, ap, sym, ◌∙◌}
use Rattle.std.proofs.lemmas.Option.{same_Some, slice_get_read}
use Rattle.hp_units.specs.declared.replies.Reply.{Reply}
use Rattle.hp_schedules.specs.Outcomes.{told}
use Rattle.hp_schedules.proofs.outcomes.is_told_at.Goals as goal

pub returns-in-Some : goal.returns-in-Some
returns-in-Some c =
    let here =
    slice_get_read c.args.replies.now (length c.args.replies.now) c.args.place c.in-Some.reply.now refl
    c.in-Some.ensures.lookup.3.0 c.in-Some.ensures.lookup.1 in (
      λ same. here ∙ ap (λ (r : Reply). Some r) (sym (c.same.ensures.0 same) ∙ c.told.ensures),
      λ is. c.same.ensures.1
          (c.told.ensures
          ∙ same_Some (told c.args.latest.now.reply) c.in-Some.reply.now (sym is ∙ here)),
    )
