use Rattle.std.proofs.Common.{refl, sym, ◌∙◌}
use Rattle.hp_scenario.proofs.PlainTokens.{array_closes, object_closes}
use Rattle.hp_scenario.proofs.plain_reader.end_at.Goals as goal

pub returns-in-93 : goal.returns-in-93
returns-in-93 c =
    array_closes c.args.place c.args.text.now _ (sym c.byte_of.ensures.is ∙ c.in-93.is) c.requires refl
    ∙ sym c.bracket.ensures

pub returns-in-125 : goal.returns-in-125
returns-in-125 c =
    object_closes c.args.place c.args.text.now _ (sym c.byte_of.ensures.is ∙ c.in-125.is) c.requires refl
    ∙ sym c.bracket-in-125.ensures
