-- All of them are taken from the room, or one is more than what is left.
use Rattle.std.proofs.Common.{◌≡◌, ◌+◌, ◌<◌, arith}
use Rattle.hp_parts.proofs.Joining.{counted_in, counted_mapped, items, left_more, none_left}
use Rattle.hp_parts.proofs.rooms.fit_in.Goals as goal

pub loop-ends-preserved : goal.loop-ends-preserved
loop-ends-preserved c =
    let told : counted_in items c.ends-item.result + c.in-Some.less ≡ c.loop-ends.left =
    rw c.as_slice.ensures.value at c.in-Some.ensures.some in
    record {
      so_far =
          left_more (counted_in items) c.args.lists.now c.args.room c.loop-ends.left c.in-Some.less
          c.loop-ends.ends-index c.ends-item.result c.loop-ends-test.true c.loop-ends.invariant.so_far
          (omega (arith, told)) (omega (arith, told)) c.ends-item.is;
    }

pub returns-in-None : goal.returns-in-None
returns-in-None c =
    let more : c.loop-ends.left < counted_in items c.ends-item.result =
    rw c.as_slice.ensures.value at c.in-None.ensures.none in
    let past = none_left (counted_in items) c.args.lists.now c.args.room c.loop-ends.left
    c.loop-ends.ends-index c.ends-item.result c.loop-ends-test.true c.loop-ends.invariant.so_far
    (λ le. omega (arith, more, le)) c.ends-item.is in
    (λ told. absurd cc, λ fits. absurd (omega (arith, fits, counted_mapped items c.args.lists.now, past)))
