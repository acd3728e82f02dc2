use Rattle.std.proofs.Common.{◌%◌, ◌==◌, []}
use Rattle.std.specs.List.{count_by}
use Rattle.hp_plain.specs.Placing.{IsPoolPlaced, pool_numbered}
use Rattle.hp_plain.proofs.Counting.{SoFar}
use Rattle.hp_plain.proofs.placement.place_cached.Given as goal

abbrev pub invariant-loop-number : goal.invariant-loop-number
invariant-loop-number l =
    SoFar (λ frame number frames. count_by (λ other. other == frame) frames)
    (λ number frames.
    IsPoolPlaced l.layout l.free.areas.kinds l.blocks.rows (pool_numbered (number % 3)) frames)
    l.free.cached [] l.number l.fn.marks l.marks
