use Rattle.std.proofs.Common.{rules}
use Rattle.hp_scenario.proofs.PlainTokens.{blank_passed}
use Rattle.hp_scenario.proofs.plain_reader.after_blanks.Goals as goal

pub loop-rest-preserved : goal.loop-rest-preserved
loop-rest-preserved c = (
  rw c.rest_of-rest.ensures (rw (blank_passed c.loop-rest.rest.now c.byte_of.result c.byte_of.ensures.is
      (c.is_blank.ensures c.if-is_blank.true)) c.loop-rest.invariant.0),
  search rules,
)
