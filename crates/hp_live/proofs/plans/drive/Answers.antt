use Rattle.std.proofs.Common.{rules, ◌∙◌, ap}
use Rattle.hp_live.proofs.Kept.{all_kept, run_with}
use Rattle.hp_live.proofs.plans.drive.Goals as goal

pub returns-clause-ok : goal.returns-clause-ok
returns-clause-ok c =
    let ran = c.run_plan-end.ensures in
    let made =
    all_kept c.new-port.result c.run_plan-end.new.port (λ p. p.machine.ghost_name)
    (λ p. p.calls.ghost_name) (λ p. p.cpu) (λ p. p.machine.now) (λ p. p.calls.now.items) (λ p. p.is_lost)
    ran.gained c.run_plan-end.new.port.fault ran.made in
    let machine_name = made.0 ∙ c.new-port.ensures.same_machine in
    let calls_name = made.1 ∙ c.new-port.ensures.same_calls in
    run_with c.args.machine.now c.new-port.result.machine.now c.run_plan-end.new.port.machine.now _
    c.args.cpu c.new-port.result.cpu c.args.turns c.args.plan c.run_plan-end.result
    c.run_plan-end.new.port.fault ran.gained c.args.calls.now.items c.new-port.result.calls.now.items
    c.run_plan-end.new.port.calls.now.items _ c.new-port.ensures.machine c.new-port.ensures.cpu
    (search rules) (ap (λ v. v.items) c.new-port.ensures.calls) (search rules) made.2 made.3
    (made.4 c.if-is_lost.false).1 ran.is
