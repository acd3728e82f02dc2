use Rattle.std.proofs.Common.{None}
use Rattle.hp_ops.specs.Ports.{Gains}
use Rattle.hp_ops.proofs.Runs.{IsUnderWay, calls_left}
use Rattle.hp_ops.proofs.driver.run_plan.Given as goal

-- the receipts so far are a run, and the event is next
abbrev pub invariant-loop-reply : goal.invariant-loop-reply
invariant-loop-reply g l =
    Gains g.P.Port.shows g.P.Port.makes g.P.Port.leaves l.fn.port None l.port
    (IsUnderWay (g.P.Port.shows l.fn.port).cpus l.fn.turns l.fn.plan l.driver l.event)

abbrev pub decreases-loop-reply : goal.decreases-loop-reply
decreases-loop-reply g l = calls_left l.driver l.event
