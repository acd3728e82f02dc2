use Rattle.std.proofs.Common.{inr, arith}
use Rattle.hp_shared.proofs.WorkerLists.{gathered}
use Rattle.hp_shared.proofs.threads.run_workers.Goals as goal

pub returns : goal.returns
returns g c =
    let done = c.run_rest.result in
    rw (c.in_order.ensures.seats, c.in_order.ensures.ends, c.in_order.ensures.fault)
    (inr (gathered g.L.Job.layout c.args.seats.items c.args.scripts.items done.seats.items done.volumes.items
    c.in_order.result.volumes.items done.ends.items done.fault c.run_rest.ensures.workers
    c.in_order.ensures.same c.in_order.ensures.order
    (omega (arith, c.requires.one_each, c.args.seats.ok.0, c.args.scripts.ok.0))))
