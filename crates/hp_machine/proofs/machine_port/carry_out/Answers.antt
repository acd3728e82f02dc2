use Rattle.std.proofs.Common.{ap, rules, ◌∙◌}
use Rattle.hp_machine.proofs.MachineCalls.{calls_made}
use Rattle.hp_machine.proofs.PlanRuns.{plan_driven}
use Rattle.hp_machine.proofs.machine_port.carry_out.Goals as goal

pub returns : goal.returns
returns g c =
    let value = g.M.CallMachine.machine in
    let ran = c.run_plan-end.ensures in
    let made =
    calls_made c.new-port.result c.run_plan-end.new.port (λ p. p.machine.ghost_name) (λ p. p.cpu)
    (λ p. value p.machine.now) ran.gained c.run_plan-end.new.port.fault ran.made in
    let name = made.0 ∙ c.new-port.ensures.same_reference in
    plan_driven (value c.args.machine.now) (value c.new-port.result.machine.now)
    (value c.run_plan-end.new.port.machine.now) _ c.args.cpu c.new-port.result.cpu c.args.turns c.args.plan
    c.run_plan-end.result c.run_plan-end.new.port.fault ran.gained (ap value c.new-port.ensures.machine)
    c.new-port.ensures.cpu (search rules) made.1 made.2 ran.is
