-- One end more.
use Rattle.std.proofs.Common.{◌^◌}
use Rattle.hp_parts.proofs.Joining.{ends_more, ends_room}
use Rattle.hp_parts.proofs.merged_ends.MergedEnds.add_ends.Goals as goal

pub add_end-requires : goal.add_end-requires
add_end-requires c =
    ends_room c.args.self.now c.args.ends.now c.loop-end.self c.loop-end.end-index (2 ^ 64) c.end-item.result
    c.loop-end-test.true c.end-item.is c.loop-end.invariant.added c.requires

pub loop-end-preserved : goal.loop-end-preserved
loop-end-preserved c = record {
  added =
      ends_more c.args.self.now c.args.ends.now c.loop-end.self c.add_end.new.self c.loop-end.end-index
      c.end-item.result c.loop-end-test.true c.end-item.is c.loop-end.invariant.added
      c.in_ok-add_end.ensures.ok;
}
