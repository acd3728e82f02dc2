use Rattle.std.proofs.Common.{rules, ◌∙◌}
use Rattle.hp_trace.specs.declared.plans.TracePort.{TracePort}
use Rattle.hp_trace.proofs.PlansTraced.{all_traced, driven, known}
use Rattle.hp_trace.proofs.plans.drive.Goals as goal

pub returns : goal.returns
returns c =
    let g = c.run_plan-end.ensures in
    let made =
    all_traced (known (λ (p : TracePort). p.machine.ghost_name) (λ (p : TracePort). p.rows.ghost_name)
    (λ (p : TracePort). p.cpu) (λ (p : TracePort). p.machine.now) (λ (p : TracePort). p.rows.now)
    (λ (p : TracePort). p.is_lost))
    _ _ (λ p q gained calls. calls) (λ p q fault left. left) c.new-port.result c.run_plan-end.new.port
    g.gained c.run_plan-end.new.port.fault g.made in
    let machine_name = made.0 ∙ c.new-port.ensures.same_machine in
    let rows_name = made.1 ∙ c.new-port.ensures.same_rows in
    driven c.args.machine.now c.new-port.result.machine.now c.run_plan-end.new.port.machine.now _ c.args.cpu
    c.new-port.result.cpu c.args.turns c.args.plan c.run_plan-end.result c.args.rows.now
    c.new-port.result.rows.now c.run_plan-end.new.port.rows.now _
    c.run_plan-end.new.port.fault g.gained c.new-port.ensures.machine c.new-port.ensures.cpu
    c.new-port.ensures.rows (search rules) (search rules) (made.2 c.if-is_lost.false) g.is
