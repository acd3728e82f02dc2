-- The bounds of one frame out and in.
use Rattle.std.proofs.Common.{◌≤◌, ℕ, arith}
use Rattle.hp_units.specs.declared.rows.Pool.{Pool}
use Rattle.hp_units.specs.LayoutParts.{LayoutParts}
use Rattle.hp_units.specs.Memory.{FreeFrames}
use Rattle.hp_tape.specs.Bounds.{batch_bound, take_one_bound}

-- no frame out notes more than a batch
pub take-few : (l : LayoutParts) (fs : FreeFrames) (cpu : ℕ) (pool : Pool)
    → take_one_bound l fs cpu pool ≤ batch_bound l
take-few l fs cpu pool = grind arith
