-- One list more.
use Rattle.std.proofs.Common.{◌^◌}
use Rattle.hp_parts.proofs.Joining.{items, lists_more, lists_room}
use Rattle.hp_parts.proofs.merged_ends.MergedEnds.add_lists.Goals as goal

pub add_ends-requires : goal.add_ends-requires
add_ends-requires c =
    rw c.as_slice.ensures.value (lists_room items c.args.lists.now c.args.self.now c.loop-ends.self
    c.loop-ends.ends-index (2 ^ 64)
    c.ends-item.result c.loop-ends-test.true c.ends-item.is c.loop-ends.invariant.added c.requires)

pub loop-ends-preserved : goal.loop-ends-preserved
loop-ends-preserved c = record {
  added =
      lists_more items c.args.lists.now c.args.self.now c.loop-ends.self c.add_ends.new.self
      c.loop-ends.ends-index c.ends-item.result c.loop-ends-test.true c.ends-item.is
      c.loop-ends.invariant.added
      (rw c.as_slice.ensures.value at c.in_ok-add_ends.ensures);
}
