-- Memory blocks, rows and lists of them, part by part.
use Rattle.std.proofs.Common.{◌≡◌, ℕ, List, drop, map, Option, None, ap, ◌∙◌}
use Rattle.hp_map.specs.BlockPictures.{BlockValue, block_with}
use Rattle.hp_map.specs.Rows.{RowValue, row_with}
use Rattle.hp_map.specs.declared.block_picture.FreeBlock.{FreeBlock}
use Rattle.hp_map.specs.declared.block_picture.KernelBlock.{KernelBlock}
use Rattle.hp_map.specs.declared.row_picture.Move.{Move}

pub equal_parts : (a b : BlockValue) → a.head ≡ b.head → a.cells ≡ b.cells → a.ordered ≡ b.ordered
    → a.kinds ≡ b.kinds → a.free ≡ b.free → a.kernel ≡ b.kernel → a ≡ b
equal_parts a b head cells ordered kinds free kernel =
    ap (λ (x : List ℕ). block_with x a.cells a.ordered a.free a.kernel a.kinds) head
    ∙ ap (λ (x : List ℕ). block_with b.head x a.ordered a.free a.kernel a.kinds) cells
    ∙ ap (λ (x : List ℕ). block_with b.head b.cells x a.free a.kernel a.kinds) ordered
    ∙ ap (λ (x : List ℕ). block_with b.head b.cells b.ordered a.free a.kernel x) kinds
    ∙ ap (λ (x : List FreeBlock). block_with b.head b.cells b.ordered x a.kernel b.kinds) free
    ∙ ap (λ (x : List KernelBlock). block_with b.head b.cells b.ordered b.free x b.kinds) kernel

pub equal_rows : (a : RowValue) (asked answer : List ℕ) (blocks : List BlockValue) → a.asked ≡ asked
    → a.answer ≡ answer → a.moved ≡ None → a.blocks ≡ blocks → a ≡ row_with asked answer None blocks
equal_rows a asked answer blocks first second still same =
    ap (λ (x : List ℕ). row_with x a.answer a.moved a.blocks) first
    ∙ ap (λ (x : List ℕ). row_with asked x a.moved a.blocks) second
    ∙ ap (λ (x : Option Move). row_with asked answer x a.blocks) still
    ∙ ap (λ (x : List BlockValue). row_with asked answer None x) same

-- ---- a list compared with what f makes of another, item by item

-- of the second, what is left is compared with what comes from an index on
abbrev pub Compared : {X : Type 0} → (f : X → X) → (xs ys left : List X) → (i : ℕ) → Type 0
Compared f xs ys left i =
    (ys ≡ map f xs → left ≡ map f (drop i xs)) × (left ≡ map f (drop i xs) → ys ≡ map f xs)
