-- A number of frames per memory block has one order.
use Rattle.std.proofs.Common.{◌≡◌, ℕ, ◌*◌, ◌<◌, ◌^◌, Option, arith}
use Rattle.std.proofs.lemmas.Bool.{cases_order}
use Rattle.std.proofs.lemmas.Nat.{pow_below}
use Rattle.hp_verdicts.specs.Sizes.{HasNoSize, blocks_for}
use Rattle.hp_verdicts.specs.declared.selection.BlockRange.{BlockRange}

-- the blocks of this order have frames past 32 bits
pub no_size : (frames : ℕ) (range : Option BlockRange) (order blocks : ℕ) → frames ≡ 2 ^ order
    → blocks ≡ blocks_for order range → (blocks * 2 ^ order < 2 ^ 32 → ⊥) → HasNoSize frames range
no_size frames range order blocks frames_are blocks_are large size is = grind (arith, cases_order, pow_below)
