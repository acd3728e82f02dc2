use Rattle.std.proofs.Common.{◌≡◌, arith, ap, length, rules}
use Rattle.std.proofs.lemmas.List.FromFn.{length-map-range_with_len}
use Rattle.std.proofs.lemmas.Result.{IfErr-weaker, IfOk-weaker}
use Rattle.hp_shared.specs.Shared.{first_seat, first_seats}
use Rattle.hp_commands.proofs.runs.run_scripts.Goals as goal

pub run_workers-end-requires-clause-one_each : goal.run_workers-end-requires-clause-one_each
run_workers-end-requires-clause-one_each g c κs within =
    let seated : c.in-Ok.seats.items ≡ first_seats g.L.Job.layout.cpus = search rules in
    omega (
      arith,
      c.in-Ok.seats.ok.0,
      c.args.scripts.ok.0,
      c.requires.scripts,
      ap length seated,
      length-map-range_with_len first_seat 0 g.L.Job.layout.cpus,
    )

pub returns-clause-ok : goal.returns-clause-ok
returns-clause-ok g c =
    let seated : c.in-Ok.seats.items ≡ first_seats g.L.Job.layout.cpus = search rules in
    IfOk-weaker c.close_after.result _ _
    (λ worked h. h c.args.scripts.items (rw seated at c.run_workers-end.ensures)) c.close_after.ensures.ok

pub returns-clause-err : goal.returns-clause-err
returns-clause-err g c =
    let seated : c.in-Ok.seats.items ≡ first_seats g.L.Job.layout.cpus = search rules in
    IfErr-weaker c.close_after.result _ _
    (λ fault h. h c.args.scripts.items (rw seated at c.run_workers-end.ensures) c.requires.scripts)
    c.close_after.ensures.err
