use Rattle.std.proofs.Common.{◌≡◌, ap, ◌∙◌, arith, rules}
use Rattle.std.proofs.lemmas.List.FromFn.{map-range_with_len_more}
use Rattle.hp_shared.specs.Shared.{first_seat, first_seats}
use Rattle.hp_shared.proofs.shared.Shared.new.Goals as goal

pub loop-cpu-preserved : goal.loop-cpu-preserved
loop-cpu-preserved g c =
    let i = c.loop-cpu.invariant in (
      omega (arith, i.0, c.split_off-share.ensures.parts_left),
      omega (arith, i.1, c.split_off-share.ensures.amount_left),
      rw (c.push_reserved.ensures.items, i.2, c.new.ensures)
          (rw (← map-range_with_len_more first_seat 0 c.loop-cpu.cpu c.loop-cpu.cpu (omega arith))),
      omega (arith, i.3, c.push_reserved.ensures.len),
      omega (arith, i.4, c.push_reserved.ensures.capacity),
      omega (arith, i.5, c.split_off-own.ensures.parts_left),
      omega (arith, i.6, c.split_off-own.ensures.amount_left),
      omega (arith, i.7, c.split_off-told.ensures.parts_left),
      omega (arith, i.8, c.split_off-told.ensures.amount_left),
    )

pub returns-clause-seats : goal.returns-clause-seats
returns-clause-seats g c =
    let cpus : c.cpus-cpus.result ≡ g.L.Job.layout.cpus =
    rw (c.cpus-cpus.ensures.is, c.layout.ensures, c.requires.machine.layout) in
    c.loop-cpu.invariant.2
    ∙ ap first_seats (omega (arith, cpus, c.loop-cpu.auto.cpu-end, c.loop-cpu-test.false))

pub returns-in_default-clause-back : goal.returns-in_default-clause-back
returns-in_default-clause-back g c = search rules
