use Rattle.std.proofs.Common.{ap, arith}
use Rattle.hp_memory.proofs.FilledLists.{same_areas}
use Rattle.hp_memory.proofs.Tables.{copied-all}
use Rattle.hp_memory.proofs.loads.areas.load_lists.Goals as goal

pub returns-clause-lists : goal.returns-clause-lists
returns-clause-lists c =
    same_areas c.loop-number.buddy.areas
    (record c.args.buddy.now.areas { lists = c.args.image.now.memory.free.areas.lists })
    (copied-all
    (omega (
      arith,
      c.loop-number-test.false,
      c.order.ensures.is,
      ap (λ l. l.order) c.layout.ensures,
      c.requires.placed.in_order.shape.lists,
    )) c.loop-number.invariant.lists)
    c.loop-number.invariant.kinds
