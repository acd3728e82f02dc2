-- What a commit requires of the blocks that its operation holds.
use Rattle.std.specs.Prelude.{◌≡◌, ℕ, ◌+◌, ◌*◌, ◌^◌, ◌<◌, ◌≤◌, true}
use Rattle.hp_units.specs.LayoutParts.{LayoutParts}
use Rattle.hp_units.specs.Memory.{FreeAreas, Memory, free_list, isolated_class, row_of}
use Rattle.hp_units.specs.FreeAreas.{is_on}
use Rattle.hp_units.specs.Rows.{is_going, zone_of_block}
use Rattle.hp_units.specs.declared.rows.Zone.{Zone}

-- `x` is one of the `count` numbers from `from` on
pub record IsInRange (from count x : ℕ) : Type 0 where
  pub low : from ≤ x
  pub high : x < from + count

-- each pageblock of the block is one isolated free block
abbrev pub IsAllFree : LayoutParts → FreeAreas → Zone → (block : ℕ) → Type 0
IsAllFree l a zone block =
    (pageblock : ℕ) → IsInRange (block * l.pageblocks) l.pageblocks pageblock
    → is_on (pageblock * 2 ^ l.order) (free_list a (isolated_class zone) l.order) ≡ true

-- a block that an operation holds can get its wish: if it is going, it is all free
abbrev pub IsGrantable : LayoutParts → Memory → (block : ℕ) → Type 0
IsGrantable l s block =
    is_going (row_of s.blocks block) ≡ true → IsAllFree l s.free.areas (zone_of_block s.blocks block) block
