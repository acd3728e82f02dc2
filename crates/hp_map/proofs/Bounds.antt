-- A memory block lies within the frames.
use Rattle.std.proofs.Common.{ℕ, ◌+◌, ◌*◌, ◌<◌, ◌≤◌, arith}
use Rattle.std.proofs.Math.Nat.{mul-le-mul_right}

pub block_within_frames : (blocks size n : ℕ) → n < blocks → n * size + size ≤ blocks * size
block_within_frames blocks size n low = grind (arith, mul-le-mul_right)
