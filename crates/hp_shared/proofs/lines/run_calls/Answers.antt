use Rattle.std.proofs.Common.{rules, ◌∙◌}
use Rattle.hp_scenario.specs.Seen.{asked_seen}
use Rattle.hp_shared.proofs.LineRuns.{line_run, seat_made}
use Rattle.hp_shared.proofs.lines.run_calls.Goals as goal

pub returns : goal.returns
returns g c =
    let ran = c.run_asked-end.ensures in
    let made =
    seat_made g.L.Job.layout _ _ c.new-port.result c.run_asked-end.new.port ran.gained ran.fault ran.made
    (λ p. p.seat.ghost_name) (λ p. p.seat.now) (λ p q gained turns. turns) (λ p q fault left. left) in
    let name = made.0 ∙ c.new-port.ensures.same_reference in
    line_run g.L.Job.layout c.args.seat.now c.new-port.result.seat.now made.1
    c.run_asked-end.new.port.seat.now _ (asked_seen c.args.asked) ran.gained ran.fault
    c.run_asked-end.result c.new-port.ensures.seat (search rules) made.2 made.3 ran.ran made.4
