-- The value of the layer of memory blocks in contracts, and statements about it.
use Rattle.std.specs.Prelude.{◌≡◌, ℕ, ◌<◌, ◌≤◌, true, false}
use Rattle.hp_units.specs.InLayout.{AreBlocksOf}
use Rattle.hp_units.specs.LayoutParts.{LayoutParts}
use Rattle.hp_units.specs.Memory.{Blocks, row_of}
use Rattle.hp_units.specs.Rows.{is_claimed_by}

-- the layout, and the rows of its memory blocks
pub record BlocksValue : Type 0 where
  pub layout : LayoutParts
  pub blocks : Blocks

-- the rows are those of the layout: one per memory block, and at most 256
pub record AreLayerOf (l : LayoutParts) (bs : Blocks) : Type 0 where
  pub rows : AreBlocksOf l bs
  pub few : l.blocks ≤ 256

-- the operation holds none of the blocks with first <= block < past
abbrev pub AreUnclaimed : BlocksValue → (op first past : ℕ) → Type 0
AreUnclaimed b op first past =
    (block : ℕ) → first ≤ block → block < past → is_claimed_by op (row_of b.blocks block) ≡ false

-- the block is the lowest, from `first` on, that the operation holds
pub record IsNextClaimed (b : BlocksValue) (op first block : ℕ) : Type 0 where
  pub low : first ≤ block
  pub high : block < b.layout.blocks
  pub claimed : is_claimed_by op (row_of b.blocks block) ≡ true
  pub below : AreUnclaimed b op first block
