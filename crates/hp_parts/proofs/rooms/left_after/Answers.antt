-- All of them are taken from the room, or one is more than what is left.
use Rattle.hp_schedules.specs.declared.tally.Ending.{Ending}
use Rattle.hp_parts.proofs.Joining.{all_left, left_more, none_left}
use Rattle.hp_parts.proofs.rooms.left_after.Goals as goal

pub loop-end-preserved : goal.loop-end-preserved
loop-end-preserved c = record {
  so_far =
      left_more (λ (e : Ending). e.count) c.args.ends.now c.args.room c.loop-end.left c.in-Some.less
      c.loop-end.end-index c.end-item.result c.loop-end-test.true c.loop-end.invariant.so_far
      c.in-Some.ensures.0 c.in-Some.ensures.1 c.end-item.is;
}

pub returns-in-None-clause-none : goal.returns-in-None-clause-none
returns-in-None-clause-none c =
    none_left (λ (e : Ending). e.count) c.args.ends.now c.args.room c.loop-end.left c.loop-end.end-index
    c.end-item.result c.loop-end-test.true c.loop-end.invariant.so_far c.in-None.ensures c.end-item.is

pub returns-clause-some : goal.returns-clause-some
returns-clause-some c =
    all_left (λ (e : Ending). e.count) c.args.ends.now c.args.room c.loop-end.left c.loop-end.end-index
    c.loop-end-test.false c.loop-end.invariant.so_far
