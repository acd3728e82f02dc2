-- In a well placed state free blocks and blocks in use lie within the frames, and no frame in use
-- is free.
use Rattle.std.proofs.Common.{◌≡◌, ℕ, ◌+◌, ◌*◌, ◌-◌, ◌/◌, ◌^◌, ◌<◌, ◌≤◌, List, [], ◌∷◌, length, true, cond, refl, ap, subst, arith, inl, inr, Option, Some, None, IfSome, ◌%◌}
use Rattle.std.proofs.lemmas.Bool.{cases_lt, both_ways}
use Rattle.std.proofs.lemmas.List.{get_or_past}
use Rattle.std.proofs.lemmas.Nat.{pow_pos}
use Rattle.std.proofs.Math.Nat.{one-le-mul, le-div_iff_mul-le}
use Rattle.hp_units.specs.declared.rows.Class.{Class}
use Rattle.hp_units.specs.declared.rows.Row.{Row}
use Rattle.hp_units.specs.LayoutParts.{LayoutParts, IsLayout}
use Rattle.hp_units.specs.Arithmetic.{frame_count, block_size, block_of, IsFrame}
use Rattle.hp_units.specs.Memory.{FreeAreas, Memory, free_list, class_index, offline_row, row_of, kernel_order}
use Rattle.hp_units.specs.FreeAreas.{is_on}
use Rattle.hp_units.specs.Placement.{IsWellPlaced, list_places, free_places, offline_places, is_unplugged, IsKernelAt, IsPage, cached_places, kernel_places, mapped_places}
use Rattle.hp_units.proofs.Places.{covered-in, class_index-lt, list_places-cons}
use Rattle.hp_units.proofs.ListEdits.{on_cases, list_places-le}
use Rattle.hp_units.specs.InLayout.{ArePagesOf}
use Rattle.hp_units.specs.Pages.{frame_at}
use Rattle.hp_units.proofs.KernelBlockFrames.{kernel-places}
use Rattle.hp_units.proofs.Tables.{mapped_some, table_of}

-- ---- past the frames

-- a memory block has frames
pub size_some : (l : LayoutParts) → IsLayout l → 1 ≤ block_size l
size_some l layout = one-le-mul (rw layout.pageblocks.2 (pow_pos layout.pageblocks.0)) (pow_pos l.order)

-- a number past the frames is in an offline row
pub past-offline : (l : LayoutParts) (s : Memory) (f : ℕ) → IsLayout l → length s.blocks.rows ≡ l.blocks
    → frame_count l ≤ f → offline_places l s f ≡ 1
past-offline l s f layout size past =
    let block : l.blocks ≤ f / block_size l = (le-div_iff_mul-le (size_some l layout)).1 past in
    let row : row_of s.blocks (block_of l f) ≡ offline_row =
    get_or_past s.blocks.rows (f / block_size l) offline_row (omega (arith, block, size)) in
    ap (λ (r : Row). cond (is_unplugged r) 1 0) row

-- ---- a free block's frames

-- a block on a list is a place of each of its frames
pub on-covers : (f order first : ℕ) (frames : List ℕ) → first ≤ f → f < first + 2 ^ order
    → is_on first frames ≡ true → 1 ≤ list_places f order frames
on-covers f order first [] low high e = cc
on-covers f order first (x ∷ xs) low high e = elim (on_cases first x xs e) [
  | inl same ↦ omega (arith, list_places-cons f order x xs, covered-in f order x (omega arith) (omega arith))
  | inr on ↦ omega (arith, on-covers f order first xs low high on, list_places-cons f order x xs)
]

-- an order that has a free block is in the lists
pub free_order : (a : FreeAreas) (class : Class) (order first n : ℕ) → length a.lists ≡ 5 * n
    → is_on first (free_list a class order) ≡ true → 5 * order + 5 ≤ length a.lists
free_order a class order first n size on = elim (cases_lt (5 * order + class_index class) (length a.lists)) [
  | inl inside ↦ omega (arith, class_index-lt class)
  | inr past ↦
      absurd (both_ways (is_on first []) refl (subst (λ (xs : List ℕ). is_on first xs ≡ true)
      (get_or_past a.lists _ [] past) on))
]

-- a free block lies within the frames
pub free-within : (l : LayoutParts) (s : Memory) (class : Class) (order first : ℕ) → IsLayout l
    → IsWellPlaced l s → is_on first (free_list s.free.areas class order) ≡ true
    → first + 2 ^ order ≤ frame_count l
free-within l s class order first layout h on = elim (cases_lt (frame_count l) (first + 2 ^ order)) [
  | inl past ↦
      let some : 0 < 2 ^ order = pow_pos order in
      let last : ℕ = first + 2 ^ order - 1 in
      let placed = on-covers last order first _ (omega arith) (omega arith) on in
      let there =
      list_places-le s.free.areas class order last
      (free_order s.free.areas class order first (l.order + 1) h.in_order.shape.lists on) in
      absurd (omega
      (arith, placed, there, h.once last, past-offline l s last layout h.in_order.shape.rows (omega arith)))
  | inr inside ↦ inside
]

-- ---- what is in use

-- a number with a place of its own is a frame
pub in_frames : (l : LayoutParts) (s : Memory) (f : ℕ) → IsLayout l → IsWellPlaced l s
    → 1 ≤ kernel_places s f + mapped_places s.pages f → f < frame_count l
in_frames l s f layout p some = elim (cases_lt f (frame_count l)) [
  | inl inside ↦ inside
  | inr past ↦ absurd (omega (arith, p.once f, past-offline l s f layout p.in_order.shape.rows past, some))
]

-- a block in use: it lies within the frames at a multiple of its size, and none of its frames is
-- free or on a processor's list
pub record IsInUse (l : LayoutParts) (s : Memory) (order first : ℕ) : Type 0 where
  pub in_order : order ≤ l.order
  pub aligned : first % 2 ^ order ≡ 0
  pub within : first + 2 ^ order ≤ frame_count l
  pub nowhere : (f : ℕ) → first ≤ f → f < first + 2 ^ order
      → free_places s.free.areas f + cached_places s.free f ≡ 0

-- a kernel's block starts at a number of the table
kernel_in : (s : Memory) (first order : ℕ) → kernel_order s first ≡ Some order → first < length s.kernel
kernel_in s first order is = elim (cases_lt first (length s.kernel)) [
  | inl low ↦ low
  | inr past ↦ cc (get_or_past _ first None past, is)
]

-- a kernel's block is a place of each of its frames
kernel_covers : (s : Memory) (first order f : ℕ) → kernel_order s first ≡ Some order → first ≤ f
    → f < first + 2 ^ order → 1 ≤ kernel_places s f
kernel_covers s first order f is above below =
    let count = rw is at (kernel-places s first f None (kernel_in s first order is)) in
    omega (arith, count, covered-in f order first above below)

-- so a kernel's block is in use
pub kernel-in_use : (l : LayoutParts) (s : Memory) (first order : ℕ) → IsLayout l → IsWellPlaced l s
    → kernel_order s first ≡ Some order → IsInUse l s order first
kernel-in_use l s first order layout p is =
    let block = subst (λ (o : Option ℕ). IfSome o (IsKernelAt l s.blocks.rows first)) is
    (p.in_order.kernel first) in
    let some : 0 < 2 ^ order = pow_pos order in
    let last : ℕ = first + 2 ^ order - 1 in
    let covers = kernel_covers s first order last is (omega arith) (omega arith) in
    record {
      in_order = block.in_order;
      aligned = block.aligned;
      within = omega (arith, in_frames l s last layout p (omega (arith, covers)));
      nowhere = λ f above below. omega (arith, p.once f, kernel_covers s first order f is above below);
    }

-- and so is a page's frame
pub page-in_use : (l : LayoutParts) (s : Memory) (owner page frame : ℕ) → IsLayout l → IsWellPlaced l s
    → frame_at s.pages owner page ≡ Some frame → IsInUse l s 0 frame
page-in_use l s owner page frame layout p is =
    let mapped : 1 ≤ mapped_places s.pages frame =
    mapped_some _ l.pages _ owner page frame (table_of l s p.in_order) is in
    record {
      in_order = omega arith;
      aligned = omega arith;
      within = omega (arith, in_frames l s frame layout p (omega (arith, mapped)));
      nowhere =
          λ f above below. let same : f ≡ frame = omega arith in
          rw same (omega (arith, p.once frame, mapped));
    }

-- ---- the owners' pages

-- the words of a page are as many as the layout says
words_fit : (l : LayoutParts) (at : Option ℕ) (words : Option (List ℕ)) → IsPage l at words
    → IfSome words (λ words. length words ≡ l.words)
words_fit l None (Some words) h = absurd h
words_fit l (Some frame) (Some words) h = h
words_fit l _ None h = tt

-- a page's frame is one of the layout
frame_fits : (l : LayoutParts) (s : Memory) (owner page : ℕ) → IsLayout l → IsWellPlaced l s → (at : Option ℕ)
    → frame_at s.pages owner page ≡ at → IfSome at (IsFrame l)
frame_fits l s owner page layout p None is = tt
frame_fits l s owner page layout p (Some frame) is =
    let held_at = page-in_use l s owner page frame layout p is in omega (arith, held_at.within)

-- the numbers of the pages are those of the layout
pub pages_fit : (l : LayoutParts) (s : Memory) → IsLayout l → IsWellPlaced l s → ArePagesOf l s.pages
pages_fit l s layout p = record {
  owners = p.in_order.shape.owners;
  pages = p.in_order.shape.pages;
  content_owners = p.in_order.shape.content_owners;
  content_pages = p.in_order.shape.content_pages;
  mapped = λ owner page. frame_fits l s owner page layout p _ refl;
  words =
      λ owner page.
      words_fit l _ _ (p.in_order.words owner page);
}
