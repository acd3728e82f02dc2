use Rattle.std.proofs.Common.{arith}
use Rattle.hp_states.proofs.Loops.{list_more}
use Rattle.hp_states.proofs.memories.put_lists.Goals as goal

pub loop-number-preserved : goal.loop-number-preserved
loop-number-preserved c = record {
  code =
      list_more c.args.links.now.lists c.loop-number.number c.loop-number.gap c.in_ok-gap.gap _ _ _
      (omega (arith, c.loop-number-test.true, c.count-number-end.ensures)) c.in_ok-gap.ensures.code
      c.loop-number.invariant.code;
  gap = omega (arith, c.in_ok-gap.ensures.gap, c.loop-number.invariant.gap);
}
