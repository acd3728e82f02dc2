use Rattle.std.proofs.Common.{refl}
use Rattle.hp_parts.proofs.Gathered.{at_err}
use Rattle.hp_parts.proofs.gathering.Gathering.push.Goals as goal

pub returns-clause-ok : goal.returns-clause-ok
returns-clause-ok c = rw (← c.self.view_is, c.push_reserved.ensures.items, c.reserve.ensures.items)

pub returns-in_err-reserve-clause-err : goal.returns-in_err-reserve-clause-err
returns-in_err-reserve-clause-err c =
    rw (← c.self.view_is, c.reserve.ensures.items) (at_err c.from_residual.result _ refl)
