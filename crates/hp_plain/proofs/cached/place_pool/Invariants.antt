use Rattle.std.proofs.Common.{◌≡◌, ◌==◌, Some, cond}
use Rattle.hp_units.specs.Arithmetic.{pageblock_of}
use Rattle.hp_units.specs.Placement.{pool_at}
use Rattle.hp_plain.proofs.Counting.{SoFar}
use Rattle.hp_plain.proofs.cached.place_pool.Given as goal

abbrev pub invariant-loop-frame : goal.invariant-loop-frame
invariant-loop-frame l =
    SoFar (λ frame number other. cond (other == frame) 1 0)
    (λ number other. pool_at l.layout l.kinds l.rows (pageblock_of l.layout other) ≡ Some l.pool)
    l.frames 0 l.frame-index l.fn.marks l.marks
