use Rattle.std.proofs.Common.{ap, arith}
use Rattle.hp_memory.proofs.Lists.{same_lists}
use Rattle.hp_memory.proofs.Tables.{copied-all}
use Rattle.hp_memory.proofs.loads.processors.load_lists.Goals as goal

pub returns : goal.returns
returns c =
    same_lists c.loop-number.cpus (record {
      layout = c.args.cpus.now.layout;
      cached = c.args.image.now.memory.free.cached;
    }) c.loop-number.invariant.layout
    (copied-all
    (omega (
      arith,
      c.loop-number-test.false,
      c.cpus-number-end.ensures.is,
      ap (λ l. l.cpus) c.layout.ensures,
      c.requires.placed.in_order.shape.cached,
    )) c.loop-number.invariant.lists)
