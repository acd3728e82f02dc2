use Rattle.std.proofs.Common.{refl, sym, ◌∙◌}
use Rattle.hp_scenario.proofs.PlainTokens.{array_opens, object_opens}
use Rattle.hp_scenario.proofs.plain_reader.value_at.Goals as goal

pub returns-in-123 : goal.returns-in-123
returns-in-123 c =
    object_opens c.args.place c.args.text.now _ (sym c.byte_of.ensures.is ∙ c.in-123.is) c.requires refl
    ∙ sym c.bracket.ensures

pub returns-in-91 : goal.returns-in-91
returns-in-91 c =
    array_opens c.args.place c.args.text.now _ (sym c.byte_of.ensures.is ∙ c.in-91.is) c.requires refl
    ∙ sym c.bracket-in-91.ensures
