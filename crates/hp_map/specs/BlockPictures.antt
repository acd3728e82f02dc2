-- A memory block as it is drawn.
use Rattle.std.specs.Prelude.{ℕ, ◌&&◌, Bool, List}
use Rattle.std.specs.Str.{bytes_eq}
use Rattle.hp_map.specs.declared.block_picture.FreeBlock.{FreeBlock}
use Rattle.hp_map.specs.declared.block_picture.KernelBlock.{KernelBlock}

-- a memory block as it is drawn: the text before its cells, its cells, and its cells with each free
-- block drawn by its order. It also has its free blocks, the kernel's blocks, and a letter for each
-- of its frames, by the mobility of the frame's pageblock
pub record BlockValue : Type 0 where
  pub head : List ℕ
  pub cells : List ℕ
  pub ordered : List ℕ
  pub free : List FreeBlock
  pub kernel : List KernelBlock
  pub kinds : List ℕ

abbrev pub block_with : (head cells ordered : List ℕ) → List FreeBlock → List KernelBlock → (kinds : List ℕ)
    → BlockValue
block_with head cells ordered free kernel kinds =
    record { head = head; cells = cells; ordered = ordered; free = free; kernel = kernel; kinds = kinds }

-- both blocks are drawn by the same text
abbrev pub is_same : BlockValue → BlockValue → Bool
is_same a b = (bytes_eq a.head b.head && bytes_eq a.cells b.cells) && bytes_eq a.ordered b.ordered
