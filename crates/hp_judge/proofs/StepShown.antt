-- What a snapshot says of the state that it shows.
use Rattle.std.proofs.Common.{◌≡◌, ℕ, ◌+◌, ◌^◌, ◌<◌, ◌≤◌, Bool, true, false, ◌&&◌, not, List, ◌++◌, length, Option, Some, None, is_some, sym, ap, ap₂, slice_index_or, ◌∙◌, arith, ◌⊎◌, inl, inr}
use Rattle.std.specs.List.{list_any}
use Rattle.std.proofs.lemmas.Bool.{cases_lt, le-leb, lt-ltb}
use Rattle.std.proofs.lemmas.List.{get_or_past}
use Rattle.std.proofs.lemmas.List.FromFn.{get_or-map-range_with_len, length-map-range_with_len}
use Rattle.std.proofs.lemmas.Nat.{pow_pos}
use Rattle.hp_units.specs.Arithmetic.{block_of, frame_count}
use Rattle.hp_units.specs.LayoutParts.{IsLayout, LayoutParts}
use Rattle.hp_units.specs.Memory.{Memory, kernel_order, offline_row, row_of}
use Rattle.hp_units.specs.Pages.{page_at}
use Rattle.hp_units.specs.Placement.{IsWellPlaced, covers, kernel_places, mapped_places}
use Rattle.hp_units.proofs.KernelBlockFrames.{kernel-places, kernel_covered}
use Rattle.hp_units.proofs.Placed.{past-offline}
use Rattle.hp_units.proofs.Tables.{mapped_some, table_of}
use Rattle.hp_laws.proofs.Migrations.{page_from-at}
use Rattle.hp_judge.specs.Events.{leaves_offline}
use Rattle.hp_judge.specs.Logs.{allocs_at, block_events, frees_at, stays}
use Rattle.hp_judge.specs.LawfulNames.{LogEvent}
use Rattle.hp_judge.specs.Phases.{BlockPhase, phase_events, phase_of}
use Rattle.hp_judge.specs.Pieces.{alloc_events, free_events, piece_at, piece_by, same_piece}
use Rattle.hp_judge.specs.StepNames.{FrameHolder, Nobody}
use Rattle.hp_judge.specs.Snapshots.{Shows, SnapshotValue, holder_at, holder_by, holder_of, page_in, piece_in}

-- ---- a frame that holds a page is nowhere else

-- a page is a place of its frame
page_placed : (l : LayoutParts) (s : Memory) (f : ℕ) (page : ℕ × ℕ) → IsWellPlaced l s
    → page_at s.pages f ≡ Some page → 1 ≤ mapped_places s.pages f
page_placed l s f page p e =
    let at = page_from-at 0 f page.0 page.1 s.pages.table e in
    mapped_some l.owners l.pages s.pages.table at.row page.1 f (table_of l s p.in_order) at.entry

-- a block of the kernel is a place of its first frame
kernel_placed : (l : LayoutParts) (s : Memory) (f order : ℕ) → IsWellPlaced l s
    → kernel_order s f ≡ Some order → 1 ≤ kernel_places s f
kernel_placed l s f order p e = by_length (cases_lt f (length s.kernel))
  where
    no_order : None ≡ Some order → ⊥
    no_order e = cc

    own : covers f order f ≡ true
    own = rw (le-leb f f (omega arith), lt-ltb f (f + 2 ^ order) (omega (arith, pow_pos order)))

    by_length : (f < length s.kernel) ⊎ (length s.kernel ≤ f) → 1 ≤ kernel_places s f
    by_length (inl inside) =
        let one : kernel_covered f f (kernel_order s f) ≡ 1 = rw (e, own) in
        omega (arith, kernel-places s f f None inside, one)
    by_length (inr past) = absurd (no_order (sym (get_or_past s.kernel f None past) ∙ e))

none_of : (page : Option (ℕ × ℕ)) → ((some : ℕ × ℕ) → page ≡ Some some → ⊥) → page ≡ None
none_of page h = grind arith

kernel_alone : (l : LayoutParts) (s : Memory) (f order : ℕ) → IsWellPlaced l s
    → kernel_order s f ≡ Some order → page_at s.pages f ≡ None
kernel_alone l s f order p e = grind (arith, none_of, page_placed, kernel_placed)

past_empty : (l : LayoutParts) (s : Memory) (f : ℕ) → IsLayout l → IsWellPlaced l s → frame_count l ≤ f
    → page_at s.pages f ≡ None
past_empty l s f layout p past = grind (arith, none_of, page_placed, past-offline)

-- ---- what a snapshot has at a frame

holder-shown : (l : LayoutParts) (s : Memory) (snapshot : SnapshotValue) (f : ℕ) → Shows l s snapshot
    → f < frame_count l → holder_at snapshot f ≡ holder_of s f
holder-shown l s snapshot f shows inside = grind (arith, get_or-map-range_with_len)

past-shown : (l : LayoutParts) (s : Memory) (snapshot : SnapshotValue) (f : ℕ) → Shows l s snapshot
    → frame_count l ≤ f → holder_at snapshot f ≡ Nobody
past-shown l s snapshot f shows past = grind (arith, get_or_past, length-map-range_with_len)

-- the piece that starts there
piece_by-holder : (kernel : Option ℕ) (page : Option (ℕ × ℕ))
    → piece_in (holder_by kernel page) ≡ piece_by kernel (is_some page)
piece_by-holder kernel page = grind arith

pub piece-shown : (l : LayoutParts) (s : Memory) (snapshot : SnapshotValue) (f : ℕ) → Shows l s snapshot
    → f < frame_count l → piece_in (holder_at snapshot f) ≡ piece_at s f
piece-shown l s snapshot f shows inside =
    rw (holder-shown l s snapshot f shows inside, piece_by-holder (kernel_order s f) (page_at s.pages f))

-- the page that is there
page_by-holder : (kernel : Option ℕ) (page : Option (ℕ × ℕ))
    → ((order : ℕ) → kernel ≡ Some order → page ≡ None) → page_in (holder_by kernel page) ≡ page
page_by-holder kernel page alone = grind arith

pub page-shown : (l : LayoutParts) (s : Memory) (snapshot : SnapshotValue) (f : ℕ)
    → Shows l s snapshot → page_in (holder_at snapshot f) ≡ page_at s.pages f
page-shown l s snapshot f shows = by_frame (cases_lt f (frame_count l))
  where
    by_frame : (f < frame_count l) ⊎ (frame_count l ≤ f)
        → page_in (holder_at snapshot f) ≡ page_at s.pages f
    by_frame (inl inside) =
        ap (λ (h : FrameHolder). page_in h) (holder-shown _ _ _ _ shows inside)
        ∙ page_by-holder _ _ (λ order e. kernel_alone _ _ _ _ shows.placed e)
    by_frame (inr past) = grind (arith, past-shown, past_empty)

-- the phase of a memory block
pub phase-shown : (l : LayoutParts) (s : Memory) (snapshot : SnapshotValue) (block : ℕ) (phase : BlockPhase)
    → Shows l s snapshot → phase ≡ phase_of (slice_index_or snapshot.rows block offline_row)
    → phase ≡ phase_of (row_of s.blocks block)
phase-shown l s snapshot block phase shows is = rw (is, shows.is)

-- ---- a piece that stays in use

stays_shown : (l : LayoutParts) (s t : Memory) (before after : SnapshotValue) (f : ℕ) → Shows l s before
    → Shows l t after → f < frame_count l
    → same_piece (piece_in (holder_at before f)) (piece_in (holder_at after f))
    ≡ same_piece (piece_at s f) (piece_at t f)
stays_shown l s t before after f p q inside = grind (arith, piece-shown)

-- the pieces are not the same
pub stays_not : (l : LayoutParts) (s t : Memory) (before after : SnapshotValue) (f : ℕ)
    (holder next : FrameHolder) (same : Bool)
    → Shows l s before → Shows l t after → f < frame_count l
    → holder ≡ holder_at before f → next ≡ holder_at after f
    → same ≡ same_piece (piece_in holder) (piece_in next) → same ≡ false → false ≡ stays l s t f
stays_not l s t before after f holder next same p q inside at after_at is differs = grind (arith, stays_shown)

-- they are, and it is looked at what happens to the memory block
pub stays_by : (l : LayoutParts) (s t : Memory) (before after : SnapshotValue) (f block : ℕ)
    (holder next : FrameHolder) (same goes : Bool) (from to : BlockPhase)
    → Shows l s before → Shows l t after → f < frame_count l
    → holder ≡ holder_at before f → next ≡ holder_at after f
    → same ≡ same_piece (piece_in holder) (piece_in next) → same ≡ true → block ≡ block_of l f
    → from ≡ phase_of (slice_index_or before.rows block offline_row)
    → to ≡ phase_of (slice_index_or after.rows block offline_row)
    → goes ≡ list_any leaves_offline (phase_events block from to) → not goes ≡ stays l s t f
stays_by l s t before after f block holder next same goes from to p q inside at after_at is agrees of was now
    gone =
    let pieces : same_piece (piece_at s f) (piece_at t f) ≡ true =
    sym (stays_shown l s t before after f p q inside)
    ∙ (sym (ap₂ (λ (a b : FrameHolder). same_piece (piece_in a) (piece_in b)) at after_at)
    ∙ (sym is ∙ agrees)) in
    let events : goes ≡ list_any leaves_offline (block_events s t block) =
    gone
    ∙ ap₂ (λ (a b : BlockPhase). list_any leaves_offline (phase_events block a b))
    (phase-shown l s before block from p was) (phase-shown l t after block to q now) in
    sym (ap (λ (b : Bool). b && not (list_any leaves_offline (block_events s t (block_of l f)))) pieces
    ∙ ap (λ (b : Bool). not b)
    (sym (events ∙ ap (λ (n : ℕ). list_any leaves_offline (block_events s t n)) of)))

-- ---- what a frame and a block add to a log

pub freed : (l : LayoutParts) (s t : Memory) (before : SnapshotValue) (f : ℕ) (holder : FrameHolder)
    (still : Bool) (old new : List LogEvent)
    → Shows l s before → f < frame_count l → holder ≡ holder_at before f → still ≡ stays l s t f
    → still ≡ false → new ≡ old ++ free_events f (piece_in holder) → new ≡ old ++ frees_at l s t f
freed l s t before f holder still old new p inside at is ends written = cc (piece-shown l s before f p inside)

pub allocated : (l : LayoutParts) (s t : Memory) (after : SnapshotValue) (f : ℕ) (holder : FrameHolder)
    (still : Bool) (old new : List LogEvent)
    → Shows l t after → f < frame_count l → holder ≡ holder_at after f → still ≡ stays l s t f
    → still ≡ false → new ≡ old ++ alloc_events f (piece_in holder) → new ≡ old ++ allocs_at l s t f
allocated l s t after f holder still old new q inside at is ends written = grind (arith, piece-shown)

pub turned : (l : LayoutParts) (s t : Memory) (before after : SnapshotValue) (block : ℕ)
    (from to : BlockPhase) (old new : List LogEvent)
    → Shows l s before → Shows l t after
    → from ≡ phase_of (slice_index_or before.rows block offline_row)
    → to ≡ phase_of (slice_index_or after.rows block offline_row)
    → new ≡ old ++ phase_events block from to → new ≡ old ++ block_events s t block
turned l s t before after block from to old new p q was now written = grind (arith, phase-shown)
