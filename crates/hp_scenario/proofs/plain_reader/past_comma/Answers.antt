use Rattle.std.proofs.Common.{sym, ◌∙◌, arith}
use Rattle.hp_scenario.proofs.PlainTokens.{comma_passed}
use Rattle.hp_scenario.proofs.plain_reader.past_comma.Goals as goal

pub returns : goal.returns
returns c =
    rw (c.after_blanks.ensures, c.rest_of.ensures) (rw
    (comma_passed c.args.place c.after_blanks-text.result.now (sym c.may_begin.ensures ∙ c.if-may_begin.false)
    (omega (arith, c.byte_of.ensures.is, c.if-byte_of-ne44.false))) (rw c.after_blanks-text.ensures))
