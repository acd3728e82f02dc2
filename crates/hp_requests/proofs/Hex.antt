-- Sixteen hexadecimal digits make a number below 2 ^ 64.
use Rattle.std.proofs.Common.{ℕ, ◌+◌, ◌*◌, ◌^◌, ◌<◌, add-one, arith, lit<}
use Rattle.std.proofs.Math.Nat.{pow-suc, pow-le-pow_right}

-- one digit more takes one place more
pub next_below : (number index digit : ℕ) → number < 16 ^ index → digit < 16
    → number * 16 + digit < 16 ^ (index + 1)
next_below number index digit below small = rw (add-one, pow-suc 16 index) (omega arith)

-- and sixteen places fit 64 bits
pub next_fits : (number index digit : ℕ) → number < 16 ^ index → index < 16 → digit < 16
    → number * 16 + digit < 2 ^ 64
next_fits number index digit below few small =
    omega (
      arith,
      next_below number index digit below small,
      pow-le-pow_right {n = 16} (lit< tt) {i = index + 1} {j = 16} (omega arith),
    )
