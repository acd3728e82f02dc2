-- A state is well placed exactly if its parts are, and each frame is in one place.
use Rattle.std.proofs.Common.{◌≡◌, ℕ, List, Bool, true, false, MatchBool, sym, ◌∙◌, subst, arith}
use Rattle.hp_units.specs.LayoutParts.{LayoutParts}
use Rattle.hp_units.specs.InLayout.{IsMemoryOf}
use Rattle.hp_units.specs.Memory.{FreeAreas, Memory}
use Rattle.hp_units.specs.Placement.{IsWellPlaced, cached_places, free_places, mapped_places, places_of}
use Rattle.hp_plain.specs.Placing.{AreKinds, AreListsJoined, AreListsPlaced, AreMarked, ArePages, ArePlacedOnce, ArePoolsPlaced, AreRows, IsKernelPlaced, IsTwice, kernel_counts, mark_of, unplugged}

-- ---- the places of a state, marked one after another

-- marks of the frames of offline and absent blocks
abbrev pub IsStart : LayoutParts → Memory → List ℕ → Type 0
IsStart l s marks = (frame : ℕ) → mark_of marks frame ≡ unplugged l s.blocks.rows frame

-- a frame is in two places: of a free block
pub twice_free : (l : LayoutParts) (s : Memory) (a : FreeAreas) (m : List ℕ) → IsStart l s m
    → a ≡ s.free.areas → (AreListsPlaced l a s.blocks.rows → IsTwice m (free_places a))
    → ArePlacedOnce l s → ⊥
twice_free l s a m start areas twice p =
    let t = (subst (λ (b : FreeAreas). AreListsPlaced l b s.blocks.rows → IsTwice m (free_places b)) areas
    twice) p.free in
    absurd (omega (arith, t.twice, start t.frame, p.once t.frame))

-- the free blocks are marked
pub record HasFree (l : LayoutParts) (s : Memory) (start m : List ℕ) : Type 0 where
  pub starts : IsStart l s start
  pub placed : AreListsPlaced l s.free.areas s.blocks.rows
  pub marked : AreMarked start m (free_places s.free.areas)

pub has_free : (l : LayoutParts) (s : Memory) (a : FreeAreas) (start m : List ℕ) → IsStart l s start
    → a ≡ s.free.areas → AreListsPlaced l a s.blocks.rows × AreMarked start m (free_places a)
    → HasFree l s start m
has_free l s a start m starts areas placed =
    let here = rw areas at placed in
    record { starts = starts; placed = here.0; marked = here.1 }

-- on processors' lists
pub twice_cached : (l : LayoutParts) (s : Memory) (start m : List ℕ) → HasFree l s start m
    → (ArePoolsPlaced l s.free s.blocks.rows → IsTwice m (cached_places s.free)) → ArePlacedOnce l s → ⊥
twice_cached l s start m h twice p =
    let t = twice p.cached in
    absurd (omega (arith, t.twice, h.marked.adds t.frame, h.starts t.frame, p.once t.frame))

-- in the kernel's blocks
pub twice_kernel : (l : LayoutParts) (s : Memory) (start m n : List ℕ) → HasFree l s start m
    → AreMarked m n (cached_places s.free)
    → (IsKernelPlaced l s.blocks.rows s.kernel → IsTwice n (kernel_counts s.kernel)) → ArePlacedOnce l s → ⊥
twice_kernel l s start m n h cached twice p =
    let t = twice p.kernel in
    absurd (omega
    (arith, t.twice, cached.adds t.frame, h.marked.adds t.frame, h.starts t.frame, p.once t.frame))

-- in pages
pub twice_pages : (l : LayoutParts) (s : Memory) (start m n o : List ℕ) → HasFree l s start m
    → AreMarked m n (cached_places s.free) → AreMarked n o (kernel_counts s.kernel)
    → (ArePages l s.pages → IsTwice o (mapped_places s.pages)) → ArePlacedOnce l s → ⊥
twice_pages l s start m n o h cached kernel twice p =
    let t = twice p.pages in
    absurd (omega (
      arith,
      t.twice,
      kernel.adds t.frame,
      cached.adds t.frame,
      h.marked.adds t.frame,
      h.starts t.frame,
      p.once t.frame,
    ))

-- if all places are marked, each frame's mark is the number of its places
all_marked : (l : LayoutParts) (s : Memory) (start m n o marks : List ℕ) → HasFree l s start m
    → AreMarked m n (cached_places s.free) → AreMarked n o (kernel_counts s.kernel)
    → AreMarked o marks (mapped_places s.pages) → (frame : ℕ) → mark_of marks frame ≡ places_of l s frame
all_marked l s start m n o marks h cached kernel pages frame =
    omega (
      arith,
      pages.adds frame,
      kernel.adds frame,
      cached.adds frame,
      h.marked.adds frame,
      h.starts frame,
    )

pub placed_once : (l : LayoutParts) (s : Memory) (start m n o marks : List ℕ) (all : Bool)
    → HasFree l s start m
    → ArePoolsPlaced l s.free s.blocks.rows × AreMarked m n (cached_places s.free)
    → IsKernelPlaced l s.blocks.rows s.kernel × AreMarked n o (kernel_counts s.kernel)
    → ArePages l s.pages × AreMarked o marks (mapped_places s.pages)
    → MatchBool all ((frame : ℕ) → mark_of marks frame ≡ 1) (((frame : ℕ) → mark_of marks frame ≡ 1) → ⊥)
    → MatchBool all (ArePlacedOnce l s) (ArePlacedOnce l s → ⊥)
placed_once l s start m n o marks true h cached kernel pages all = record {
  free = h.placed;
  cached = cached.0;
  kernel = kernel.0;
  pages = pages.0;
  once = λ frame. sym (all_marked l s start m n o marks h cached.1 kernel.1 pages.1 frame) ∙ all frame;
}
placed_once l s start m n o marks false h cached kernel pages not_all = λ p.
    not_all (λ frame. all_marked l s start m n o marks h cached.1 kernel.1 pages.1 frame ∙ p.once frame)

-- ---- well placed states

-- a state is well placed if its parts are
pub well_placed : (l : LayoutParts) (s : Memory) → IsMemoryOf l s → AreRows s.blocks.rows
    → AreKinds l s.free.areas.kinds s.blocks.rows → AreListsJoined l s.free.areas → ArePlacedOnce l s
    → IsWellPlaced l s
well_placed l s of rows kinds joined p = record {
  in_order = record {
    shape = record {
      lists = of.free.areas.lists;
      kinds = of.free.areas.kinds;
      cached = of.free.lists;
      owners = of.pages.owners;
      pages = of.pages.pages;
      content_owners = of.pages.content_owners;
      content_pages = of.pages.content_pages;
      kernel = of.kernel.frames;
      rows = of.blocks.rows;
    };
    blocks = p.free;
    joined = λ class order first below on. joined class order below first on;
    cached = p.cached;
    kernel = p.kernel;
    mobility = λ pageblock unmovable. (kinds pageblock).mobility unmovable;
    isolated = λ pageblock. (kinds pageblock).isolated;
    rows = rows;
    words = p.pages;
  };
  once = p.once;
}

-- the parts of a well placed state
pub record ArePartsPlaced (l : LayoutParts) (s : Memory) : Type 0 where
  pub rows : AreRows s.blocks.rows
  pub kinds : AreKinds l s.free.areas.kinds s.blocks.rows
  pub joined : AreListsJoined l s.free.areas
  pub once : ArePlacedOnce l s

pub parts_placed : (l : LayoutParts) (s : Memory) → IsWellPlaced l s → ArePartsPlaced l s
parts_placed l s p = record {
  rows = p.in_order.rows;
  kinds =
      λ pageblock. record {
        mobility = λ unmovable. p.in_order.mobility pageblock unmovable;
        isolated = p.in_order.isolated pageblock;
      };
  joined = λ class order below first on. p.in_order.joined class order first below on;
  once = record {
    free = p.in_order.blocks;
    cached = p.in_order.cached;
    kernel = p.in_order.kernel;
    pages = p.in_order.words;
    once = p.once;
  };
}

-- the last test decides
pub decided : (l : LayoutParts) (s : Memory) (once : Bool) → IsMemoryOf l s → AreRows s.blocks.rows
    → AreKinds l s.free.areas.kinds s.blocks.rows → AreListsJoined l s.free.areas
    → MatchBool once (ArePlacedOnce l s) (ArePlacedOnce l s → ⊥)
    → MatchBool once (IsWellPlaced l s) (IsWellPlaced l s → ⊥)
decided l s true of rows kinds joined once = well_placed l s of rows kinds joined once
decided l s false of rows kinds joined once = λ p. once (parts_placed l s p).once
