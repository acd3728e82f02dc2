use Rattle.std.proofs.Common.{sym}
use Rattle.hp_scenario.proofs.PlainTokens.{as_string}
use Rattle.hp_scenario.proofs.plain_reader.string_at.Goals as goal

pub returns : goal.returns
returns c =
    as_string c.args.place c.args.text.now c.in-Some.string.now c.in-Some.rest.now c.byte_of-next.result
    (rw c.in-Some.is at c.cut_string.ensures) (sym c.byte_of-next.ensures.is)
    (c.comes_after_value.ensures c.if-not-comes_after_value.false) c.requires.place
