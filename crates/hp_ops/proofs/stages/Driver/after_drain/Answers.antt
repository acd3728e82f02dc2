use Rattle.std.proofs.Common.{◌≡◌, ◌+◌, ℕ, Some, arith, subst}
use Rattle.hp_units.specs.Driver.{next_drain}
use Rattle.hp_ops.specs.Stages.{event_in}
use Rattle.hp_ops.proofs.stages.Driver.after_drain.Goals as goal

pub returns-in-Done-clause-next : goal.returns-in-Done-clause-next
returns-in-Done-clause-next c = rw c.in-Done.is (λ turns plan rs left.
    subst (λ (n : ℕ). event_in plan c.round.result
    ≡ Some (next_drain c.args.self.now.cpus turns c.args.op (n + 1) rs)) c.cpu.view_is
    (c.round.ensures.next turns plan rs left))

pub returns-in-Done-2-clause-next : goal.returns-in-Done-2-clause-next
returns-in-Done-2-clause-next c =
    rw c.in-Done-2.is (c.turn.ensures.next c.args.self.now.cpus (c.args.cpu + 1) (omega arith))
