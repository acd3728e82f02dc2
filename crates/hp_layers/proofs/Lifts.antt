-- What one layer's call notes leads back in the whole frame view too. The call leaves the view's
-- other parts as they are.
use Rattle.std.proofs.Common.{◌≡◌, ℕ, List, [], ◌∷◌, Option, refl, ◌∙◌, ap}
use Rattle.std.specs.List.{AllByRecursion}
use Rattle.hp_units.specs.LayoutParts.{LayoutParts}
use Rattle.hp_units.specs.Memory.{Blocks, FreeFrames}
use Rattle.hp_tape.specs.declared.deltas.Delta.{Delta}
use Rattle.hp_tape.specs.declared.deltas.Delta.TheVariants.{Link, Unlink, Kind as KindDelta, Kernel as KernelDelta, Map as MapDelta, Swap, Word as WordDelta, LargeWord, Filled, Emptied, Row as RowDelta, Auto as AutoDelta}
use Rattle.hp_tape.specs.Deltas.{AllFit, Fits, FitsBlocks, FitsFree, FitsKernel, FitsPages, FrameView, IsOfBlocks, IsOfFree, IsOfPages, PageFrames, blocks_undo, free_undo, kernel_undo, pages_undo, undo, undo_all}
use Rattle.hp_tape.specs.Tapes.{Notes, NotesBlocks, NotesFree, NotesPages, TapeValue}
use Rattle.hp_pages.specs.Kernel.{IsOfKernel, NotesKernel}
use Rattle.hp_layers.specs.Layers.{IsOfMemory, NotesView}

-- a part of the frame view, and the whole with that part changed
pub record IsPart {S : Type 0} (Own : Delta → Type 0) (Fit : Delta → S → Type 0) (one : Delta → S → S)
    (put : S → FrameView) : Type 0 where
  pub undone : (d : Delta) (x : S) → Own d → undo d (put x) ≡ put (one d x)
  pub fits : (d : Delta) (x : S) → Own d → Fit d x → Fits d (put x)

undo_all-part : {S : Type 0} (Own : Delta → Type 0) (Fit : Delta → S → Type 0) (one : Delta → S → S)
    (put : S → FrameView) (deltas : List Delta) (x : S)
    → IsPart Own Fit one put → AllByRecursion Own deltas
    → undo_all undo deltas (put x) ≡ put (undo_all one deltas x)
undo_all-part Own Fit one put [] x part own = refl
undo_all-part Own Fit one put (d ∷ deltas) x part own =
    rw (undo_all-part Own Fit one put deltas x part own.1) (part.undone d (undo_all one deltas x) own.0)

all_fit-part : {S : Type 0} (Own : Delta → Type 0) (Fit : Delta → S → Type 0) (one : Delta → S → S)
    (put : S → FrameView) (deltas : List Delta) (x : S)
    → IsPart Own Fit one put → AllByRecursion Own deltas → AllFit Fit one deltas x
    → AllFit Fits undo deltas (put x)
all_fit-part Own Fit one put [] x part own h = tt
all_fit-part Own Fit one put (d ∷ deltas) x part own h = (
  all_fit-part Own Fit one put deltas x part own.1 h.0,
  rw (undo_all-part Own Fit one put deltas x part own.1) (part.fits d (undo_all one deltas x) own.0 h.1),
)

all_any : (deltas : List Delta) → AllByRecursion IsOfMemory deltas
all_any [] = tt
all_any (d ∷ deltas) = (tt, all_any deltas)

-- what a call of one part notes
notes-part : {S : Type 0} (Own : Delta → Type 0) (Fit : Delta → S → Type 0) (one : Delta → S → S)
    (put : S → FrameView) (l : LayoutParts) (most : ℕ) (was now : TapeValue) (later earlier : S)
    → IsPart Own Fit one put → Notes Own Fit one l most was now later earlier
    → NotesView l most was now (put later) (put earlier)
notes-part Own Fit one put l most was now later earlier part n = record {
  deltas = n.deltas;
  tape = n.tape;
  few = n.few;
  own = all_any n.deltas;
  numbers = n.numbers;
  lead = record {
    fit = all_fit-part Own Fit one put n.deltas later part n.own n.lead.fit;
    back = undo_all-part Own Fit one put n.deltas later part n.own ∙ ap put n.lead.back;
  };
}

-- ---- the free frames

abbrev with_free_part : FrameView → FreeFrames → FrameView
with_free_part v fs = record { free = fs; pages = v.pages; kernel = v.kernel; blocks = v.blocks }

free-undone : (v : FrameView) (d : Delta) (fs : FreeFrames) → IsOfFree d
    → undo d (with_free_part v fs) ≡ with_free_part v (free_undo d fs)
free-undone v (Link list frame after) fs own = refl
free-undone v (Unlink list frame after) fs own = refl
free-undone v (KindDelta pageblock was now) fs own = refl
free-undone v _ fs own = absurd own

free-fits : (v : FrameView) (d : Delta) (fs : FreeFrames) → IsOfFree d → FitsFree d fs
    → Fits d (with_free_part v fs)
free-fits v (Link list frame after) fs own h =
    record { areas = h.0; cached = h.1; pages = tt; kernel = tt; blocks = tt }
free-fits v (Unlink list frame after) fs own h =
    record { areas = h.0; cached = h.1; pages = tt; kernel = tt; blocks = tt }
free-fits v (KindDelta pageblock was now) fs own h =
    record { areas = h.0; cached = h.1; pages = tt; kernel = tt; blocks = tt }
free-fits v _ fs own h = absurd own

pub notes-free : (v : FrameView) (l : LayoutParts) (most : ℕ) (was now : TapeValue)
    (later earlier : FreeFrames)
    → NotesFree l most was now later earlier
    → NotesView l most was now (record v { free = later }) (record v { free = earlier })
notes-free v l most was now later earlier n =
    notes-part IsOfFree FitsFree free_undo (with_free_part v) l most was now later earlier
    (record { undone = free-undone v; fits = free-fits v }) n

-- ---- the pages

abbrev with_pages_part : FrameView → PageFrames → FrameView
with_pages_part v ps = record { free = v.free; pages = ps; kernel = v.kernel; blocks = v.blocks }

pages-undone : (v : FrameView) (d : Delta) (ps : PageFrames) → IsOfPages d
    → undo d (with_pages_part v ps) ≡ with_pages_part v (pages_undo d ps)
pages-undone v (MapDelta owner page change) ps own = refl
pages-undone v (Swap a b) ps own = refl
pages-undone v (WordDelta index frame was now) ps own = refl
pages-undone v (LargeWord index frame change) ps own = refl
pages-undone v (Filled index frame now) ps own = refl
pages-undone v (Emptied frame words) ps own = refl
pages-undone v _ ps own = absurd own

pages-fits : (v : FrameView) (d : Delta) (ps : PageFrames) → IsOfPages d → FitsPages d ps
    → Fits d (with_pages_part v ps)
pages-fits v (Link list frame after) ps own h = absurd own
pages-fits v (Unlink list frame after) ps own h = absurd own
pages-fits v (KindDelta pageblock was now) ps own h = absurd own
pages-fits v (KernelDelta frame was now) ps own h = absurd own
pages-fits v (RowDelta change) ps own h = absurd own
pages-fits v (AutoDelta was now) ps own h = absurd own
pages-fits v _ ps own h = record { areas = tt; cached = tt; pages = h; kernel = tt; blocks = tt }

pub notes-pages : (v : FrameView) (l : LayoutParts) (most : ℕ) (was now : TapeValue)
    (later earlier : PageFrames)
    → NotesPages l most was now later earlier
    → NotesView l most was now (record v { pages = later }) (record v { pages = earlier })
notes-pages v l most was now later earlier n =
    notes-part IsOfPages FitsPages pages_undo (with_pages_part v) l most was now later earlier
    (record { undone = pages-undone v; fits = pages-fits v }) n

-- ---- the rows

abbrev with_blocks_part : FrameView → Blocks → FrameView
with_blocks_part v bs = record { free = v.free; pages = v.pages; kernel = v.kernel; blocks = bs }

blocks-undone : (v : FrameView) (d : Delta) (bs : Blocks) → IsOfBlocks d
    → undo d (with_blocks_part v bs) ≡ with_blocks_part v (blocks_undo d bs)
blocks-undone v (RowDelta change) bs own = refl
blocks-undone v (AutoDelta was now) bs own = refl
blocks-undone v _ bs own = absurd own

blocks-fits : (v : FrameView) (d : Delta) (bs : Blocks) → IsOfBlocks d → FitsBlocks d bs
    → Fits d (with_blocks_part v bs)
blocks-fits v (RowDelta change) bs own h =
    record { areas = tt; cached = tt; pages = tt; kernel = tt; blocks = h }
blocks-fits v (AutoDelta was now) bs own h =
    record { areas = tt; cached = tt; pages = tt; kernel = tt; blocks = h }
blocks-fits v _ bs own h = absurd own

pub notes-blocks : (v : FrameView) (l : LayoutParts) (most : ℕ) (was now : TapeValue) (later earlier : Blocks)
    → NotesBlocks l most was now later earlier
    → NotesView l most was now (record v { blocks = later }) (record v { blocks = earlier })
notes-blocks v l most was now later earlier n =
    notes-part IsOfBlocks FitsBlocks blocks_undo (with_blocks_part v) l most was now later earlier
    (record { undone = blocks-undone v; fits = blocks-fits v }) n

-- ---- the kernel's blocks

abbrev with_kernel_part : FrameView → List (Option ℕ) → FrameView
with_kernel_part v kernel = record { free = v.free; pages = v.pages; kernel = kernel; blocks = v.blocks }

kernel-undone : (v : FrameView) (d : Delta) (kernel : List (Option ℕ)) → IsOfKernel d
    → undo d (with_kernel_part v kernel) ≡ with_kernel_part v (kernel_undo d kernel)
kernel-undone v (KernelDelta frame was now) kernel own = refl
kernel-undone v _ kernel own = absurd own

kernel-fits : (v : FrameView) (d : Delta) (kernel : List (Option ℕ)) → IsOfKernel d → FitsKernel d kernel
    → Fits d (with_kernel_part v kernel)
kernel-fits v (KernelDelta frame was now) kernel own h =
    record { areas = tt; cached = tt; pages = tt; kernel = h; blocks = tt }
kernel-fits v _ kernel own h = absurd own

pub notes-kernel : (v : FrameView) (l : LayoutParts) (most : ℕ) (was now : TapeValue)
    (later earlier : List (Option ℕ))
    → NotesKernel l most was now later earlier
    → NotesView l most was now (record v { kernel = later }) (record v { kernel = earlier })
notes-kernel v l most was now later earlier n =
    notes-part IsOfKernel FitsKernel kernel_undo (with_kernel_part v) l most was now later earlier
    (record { undone = kernel-undone v; fits = kernel-fits v }) n
