-- A picture of a memory, block by block.
use Rattle.std.specs.Prelude.{ℕ, ◌≡◌, List, length, slice_get, IfSome}
use Rattle.hp_units.specs.LayoutParts.{LayoutParts}
use Rattle.hp_units.specs.Memory.{Memory}
use Rattle.hp_map.specs.BlockPictures.{BlockValue}
use Rattle.hp_map.specs.Blocks.{free_of, kernel_of}
use Rattle.hp_map.specs.Cells.{cells_text}
use Rattle.hp_map.specs.Places.{ArePlacesOf}
use Rattle.hp_map.specs.declared.places.Place.{Place}

-- the picture of a memory block: its cells show the place of each frame, and it has the free blocks
-- and the kernel's blocks that start in the block
pub record IsBlockPicture (l : LayoutParts) (s : Memory) (places : List Place) (block : ℕ)
    (picture : BlockValue) : Type 0 where
  pub cells : picture.cells ≡ cells_text l places block
  pub free : picture.free ≡ free_of l s.free.areas block
  pub kernel : picture.kernel ≡ kernel_of l s block

-- a picture of each of `count` memory blocks, by rising number
pub record ArePictures (l : LayoutParts) (s : Memory) (places : List Place) (count : ℕ)
    (blocks : List BlockValue) : Type 0 where
  pub all : length blocks ≡ count
  pub each : (block : ℕ) → IfSome (slice_get blocks block) (IsBlockPicture l s places block)

-- a picture of each memory block of the layout, drawn by the place of each frame
pub record IsPicture (l : LayoutParts) (s : Memory) (blocks : List BlockValue) : Type 0 where
  pub places : List Place
  pub placed : ArePlacesOf l s places
  pub drawn : ArePictures l s places l.blocks blocks
