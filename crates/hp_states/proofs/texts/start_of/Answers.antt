use Rattle.std.proofs.Common.{◌-◌, arith}
use Rattle.hp_states.proofs.Joined.{starts_after}
use Rattle.hp_states.proofs.texts.start_of.Goals as goal

pub returns-else-number-eq0 : goal.returns-else-number-eq0
returns-else-number-eq0 c =
    starts_after 0 c.args.ends.now c.args.number (c.args.number - 1) c.requires
    (omega (arith, c.if-number-eq0.false))
