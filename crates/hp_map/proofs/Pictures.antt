-- The pictures of memory blocks, one more after another.
use Rattle.std.proofs.Common.{arith, ◌≡◌, ℕ, zero, suc, ◌+◌, List, [], ◌∷◌, ◌++◌, length, slice_get, IfSome}
use Rattle.std.proofs.lemmas.List.{length-append}
use Rattle.hp_units.specs.LayoutParts.{LayoutParts}
use Rattle.hp_units.specs.Memory.{Memory}
use Rattle.hp_map.specs.BlockPictures.{BlockValue, block_with}
use Rattle.hp_map.specs.declared.block_picture.FreeBlock.{FreeBlock}
use Rattle.hp_map.specs.declared.block_picture.KernelBlock.{KernelBlock}
use Rattle.hp_map.specs.Blocks.{free_of, kernel_of}
use Rattle.hp_map.specs.Cells.{cells_text}
use Rattle.hp_map.specs.Pictures.{ArePictures, IsBlockPicture}
use Rattle.hp_map.specs.declared.places.Place.{Place}

one_more : (P : ℕ → BlockValue → Type 0) (bs : List BlockValue) (b : BlockValue)
    → ((k : ℕ) → IfSome (slice_get bs k) (P k)) → P (length bs) b
    → (k : ℕ) → IfSome (slice_get (bs ++ b ∷ []) k) (P k)
one_more P [] b each last zero = last
one_more P [] b each last (suc k) = tt
one_more P (x ∷ xs) b each last zero = each 0
one_more P (x ∷ xs) b each last (suc k) = one_more (λ n. P (suc n)) xs b (λ n. each (suc n)) last k

pub pictures_more : (l : LayoutParts) (s : Memory) (places : List Place) (n : ℕ)
    (old new : List BlockValue) (b : BlockValue) → ArePictures l s places n old
    → IsBlockPicture l s places n b → new ≡ old ++ b ∷ []
    → ArePictures l s places (n + 1) new
pictures_more l s places n old new b are is more =
    let P = IsBlockPicture l s places in
    record {
      all = rw (more, length-append old (b ∷ []), are.all);
      each = rw more (one_more P old b are.each (rw are.all is));
    }

-- a picture of these parts
pub picture_is : (l : LayoutParts) (s : Memory) (places : List Place) (block : ℕ)
    (head cells ordered : List ℕ) (free : List FreeBlock) (kernel : List KernelBlock) (kinds : List ℕ)
    (picture : BlockValue)
    → picture ≡ block_with head cells ordered free kernel kinds
    → cells ≡ cells_text l places block → free ≡ free_of l s.free.areas block → kernel ≡ kernel_of l s block
    → IsBlockPicture l s places block picture
picture_is l s places block head cells ordered free kernel kinds picture is are_cells are_free are_kernel =
    grind arith
