-- One end more.
use Rattle.std.proofs.Common.{◌^◌, ◌∙◌}
use Rattle.hp_search.proofs.GroupsGrown.{groups_more, groups_room}
use Rattle.hp_search.proofs.groups.groups_of.Goals as goal

pub add-requires : goal.add-requires
add-requires c =
    groups_room c.args.by.now c.args.ends.now c.loop-end.groups.ends c.loop-end.end-index (2 ^ 64)
    c.end-item.result c.loop-end-test.true c.end-item.is c.loop-end.invariant.so_far c.requires

pub loop-end-preserved : goal.loop-end-preserved
loop-end-preserved c = record {
  by = c.in_ok-add.ensures.by ∙ c.loop-end.invariant.by;
  so_far =
      groups_more c.args.by.now c.args.ends.now c.loop-end.groups.ends
      c.add.new.self.ends c.loop-end.end-index
      c.end-item.result c.loop-end-test.true c.end-item.is c.loop-end.invariant.so_far
      (rw c.loop-end.invariant.by at c.in_ok-add.ensures.ok);
}
