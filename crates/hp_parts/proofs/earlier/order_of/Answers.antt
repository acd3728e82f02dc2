-- The one that goes on stands after the other.
use Rattle.std.proofs.Common.{arith}
use Rattle.hp_parts.proofs.EarlierSchedules.{longer, shorter}
use Rattle.hp_parts.proofs.earlier.order_of.Goals as goal

pub returns-then-place-other : goal.returns-then-place-other
returns-then-place-other c =
    longer c.args.schedule.now c.args.other.now c.loop-place.place (omega arith) (omega arith)
    c.loop-place.invariant.same

pub returns-then-schedule-other : goal.returns-then-schedule-other
returns-then-schedule-other c =
    shorter c.args.schedule.now c.args.other.now c.loop-place.place (omega arith) (omega arith)
    c.loop-place.invariant.same
