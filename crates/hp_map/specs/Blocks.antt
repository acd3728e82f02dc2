-- The free blocks and the kernel's blocks that start in a memory block.
use Rattle.std.specs.Prelude.{ℕ, ◌+◌, ◌*◌, Bool, true, false, List, [], ◌∷◌, Option, Some, None}
use Rattle.std.specs.List.{flat_map, range_with_len}
use Rattle.hp_units.specs.Arithmetic.{block_size}
use Rattle.hp_units.specs.LayoutParts.{LayoutParts}
use Rattle.hp_units.specs.Memory.{FreeAreas, Memory, kernel_order}
use Rattle.hp_units.specs.declared.rows.Class.{Class}
use Rattle.hp_units.specs.declared.rows.Class.TheVariants.{Nu, Nm, Mm, IsoN, IsoM}
use Rattle.hp_buddy.specs.Buddy.{place_of}
use Rattle.hp_map.specs.declared.block_picture.FreeBlock.{FreeBlock}
use Rattle.hp_map.specs.declared.block_picture.KernelBlock.{KernelBlock}
use Rattle.hp_map.specs.Cells.{cell_at}

-- the class is a class of isolated pageblocks
abbrev pub is_isolated_class : Class → Bool
is_isolated_class Nu = false
is_isolated_class Nm = false
is_isolated_class Mm = false
is_isolated_class IsoN = true
is_isolated_class IsoM = true

-- the free block of this class and order at cell `at`; none without a class
abbrev pub free_at : (at : ℕ) → Option (Class × ℕ) → List FreeBlock
free_at at None = []
free_at at (Some place) =
    record { at = at; order = place.1; is_isolated = is_isolated_class place.0 } ∷ []

-- the free block that starts at this frame of the memory block, if one does
abbrev pub free_frame : LayoutParts → FreeAreas → (block number : ℕ) → List FreeBlock
free_frame l a block number = free_at (cell_at l number) (place_of a (block * block_size l + number))

-- the free blocks that start in the memory block, by rising frames
abbrev pub free_of : LayoutParts → FreeAreas → (block : ℕ) → List FreeBlock
free_of l a block = flat_map (free_frame l a block) (range_with_len 0 (block_size l))

-- the kernel's block of this order at cell `at`; none without an order
abbrev pub kernel_at : (at : ℕ) → Option ℕ → List KernelBlock
kernel_at at None = []
kernel_at at (Some order) = record { at = at; order = order } ∷ []

-- the kernel's block that starts at this frame of the memory block, if one does
abbrev pub kernel_frame : LayoutParts → Memory → (block number : ℕ) → List KernelBlock
kernel_frame l s block number = kernel_at (cell_at l number) (kernel_order s (block * block_size l + number))

-- the kernel's blocks that start in the memory block, by rising frames
abbrev pub kernel_of : LayoutParts → Memory → (block : ℕ) → List KernelBlock
kernel_of l s block = flat_map (kernel_frame l s block) (range_with_len 0 (block_size l))
