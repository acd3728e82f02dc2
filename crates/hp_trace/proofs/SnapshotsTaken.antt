-- What is looked at of a machine's memory for a snapshot.
use Rattle.std.proofs.Common.{◌≡◌, ℕ, zero, suc, ◌+◌, ◌<◌, ◌≤◌, List, [], ◌∷◌, ◌++◌, map, take, slice_get, Option, None, refl, ap, ◌∙◌, add-one, arith}
use Rattle.std.specs.List.{range_with_len}
use Rattle.std.proofs.lemmas.List.{take_all}
use Rattle.std.proofs.lemmas.List.FromFn.{map-range_with_len_more}
use Rattle.hp_units.specs.Arithmetic.{frame_count}
use Rattle.hp_units.specs.LayoutParts.{LayoutParts}
use Rattle.hp_units.specs.Memory.{Memory, kernel_order}
use Rattle.hp_units.specs.Pages.{page_from}
use Rattle.hp_units.specs.Placement.{IsWellPlaced}
use Rattle.hp_pages.specs.Pages.{PagesValue}
use Rattle.hp_pages.specs.Places.{holders}
use Rattle.hp_tape.specs.Deltas.{page_frames_of}
use Rattle.hp_judge.specs.declared.holders.FrameHolder.{FrameHolder}
use Rattle.hp_judge.specs.Snapshots.{holder_by, holder_of}

-- ---- frames

abbrev pub pages_of : LayoutParts → Memory → PagesValue
pages_of l s = record { layout = l; pages = page_frames_of l s.pages }

-- a frame holds at most one page
pub held_once : (l : LayoutParts) (s : Memory) (frame : ℕ) (v : PagesValue) → IsWellPlaced l s
    → v ≡ pages_of l s → holders v.pages.table frame ≤ 1
held_once l s frame v p is = grind arith

pub frame_inside : (l : LayoutParts) (s : Memory) (frame : ℕ) (v : PagesValue) → frame < frame_count l
    → v ≡ pages_of l s → frame < frame_count v.layout
frame_inside l s frame v inside is = rw is inside

pub holder_is : (l : LayoutParts) (s : Memory) (frame : ℕ) (v : PagesValue) (holder : FrameHolder)
    (kernel : Option ℕ) (page : Option (ℕ × ℕ))
    → v ≡ pages_of l s → kernel ≡ kernel_order s frame → page ≡ page_from 0 v.pages.table frame
    → holder ≡ holder_by kernel page → holder ≡ holder_of s frame
holder_is l s frame v holder kernel page is block at made = grind arith

-- one number more
pub one_more : {X : Type 0} (f : ℕ → X) (n : ℕ)
    → map f (range_with_len 0 (n + 1)) ≡ map f (range_with_len 0 n) ++ f n ∷ []
one_more f n = map-range_with_len_more f 0 n n (omega arith)

-- ---- rows

-- one item more, or none
take_end : {X : Type 0} (xs : List X) (n : ℕ) → slice_get xs n ≡ None → take (suc n) xs ≡ take n xs
take_end [] zero at = refl
take_end [] (suc n) at = refl
take_end (y ∷ ys) zero at = cc
take_end (y ∷ ys) (suc n) at = ap (λ zs. y ∷ zs) (take_end ys n at)

pub take_none : {X : Type 0} (xs : List X) (n : ℕ) → slice_get xs n ≡ None → take (n + 1) xs ≡ take n xs
take_none {X} xs n at = ap (λ (k : ℕ). take k xs) (add-one n) ∙ take_end xs n at

pub all_rows : (l : LayoutParts) (s : Memory) → IsWellPlaced l s → take l.blocks s.blocks.rows ≡ s.blocks.rows
all_rows l s p = take_all l.blocks s.blocks.rows (omega (arith, p.in_order.shape.rows))
