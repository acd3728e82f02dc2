use Rattle.std.proofs.Common.{sym, ◌∙◌, arith}
use Rattle.hp_scenario.proofs.PlainTokens.{array_closes}
use Rattle.hp_scenario.proofs.plain_reader.PlainReader.take_end_array.Goals as goal

pub returns : goal.returns
returns c =
    sym c.self.view_is ∙ sym c.past_comma-place.ensures
    ∙ array_closes c.past_comma-place.result.0 c.past_comma-place.result.1.now
    c.rest_of-self-inside.result.now (omega (arith, c.byte_of.ensures.is, c.if-byte_of-ne93.false))
    (sym c.may_close.ensures ∙ c.if-not-may_close.false) c.rest_of-self-inside.ensures
