use Rattle.std.proofs.Common.{◌∙◌, ap, arith}
use Rattle.hp_units.specs.Memory.{FreeFrames}
use Rattle.hp_units.proofs.Pools.{pool_index-lt}
use Rattle.hp_memory.proofs.Lists.{cached-fits, cached-next}
use Rattle.hp_memory.proofs.FilledLists.{cached-numbers, next-of}
use Rattle.hp_memory.proofs.loads.processors.load_list.Goals as goal

pub back-requires-clause-fits : goal.back-requires-clause-fits
back-requires-clause-fits c = (
  c.args.image.now.memory.free.areas,
  rw c.of_cpu.ensures
      (cached-fits c.args.image.now.layout c.args.image.now.memory c.args.cpu c.args.pool
      c.loop-number.number _ c.index-frames-frames.result c.cpu_list-frames.result.now c.args.cpus.now
      c.loop-number.cpus c.requires.placed c.requires.cpu c.cpu_list-frames.ensures
      (next-of c.cpu_list-frames.result.now c.loop-number.number (omega (arith, c.loop-number-test.true))
      c.index-frames-frames.is) c.requires.partly c.loop-number.invariant.lists),
)

pub back-requires-clause-numbers : goal.back-requires-clause-numbers
back-requires-clause-numbers c =
    rw c.of_cpu.ensures
    (cached-numbers c.args.image.now.layout c.loop-number.cpus.layout c.args.image.now.memory c.args.cpu
    c.args.pool c.loop-number.number _ c.index-frames-frames.result c.cpu_list-frames.result.now
    c.requires.limits c.requires.placed (ap (λ v. v.layout)
    c.loop-number.invariant.lists ∙ c.requires.layout) c.requires.cpu c.cpu_list-frames.ensures (next-of
    c.cpu_list-frames.result.now c.loop-number.number (omega (arith, c.loop-number-test.true))
    c.index-frames-frames.is))

pub loop-number-preserved : goal.loop-number-preserved
loop-number-preserved c = record {
  lists =
      cached-next c.args.cpu c.args.pool c.loop-number.number _ c.index-frames-frames.result
      c.cpu_list-frames.result.now c.args.cpus.now c.loop-number.cpus c.back.new.self
      (omega (
        arith,
        c.requires.partly.size,
        c.requires.placed.in_order.shape.cached,
        c.requires.cpu,
        pool_index-lt c.args.pool,
      )) (next-of c.cpu_list-frames.result.now c.loop-number.number (omega (arith, c.loop-number-test.true))
      c.index-frames-frames.is) c.loop-number.invariant.lists c.back.ensures.layout
      (ap (λ (fs : FreeFrames). fs.cached)
      (rw c.of_cpu.ensures at (c.back.ensures.back c.args.image.now.memory.free.areas)));
}
