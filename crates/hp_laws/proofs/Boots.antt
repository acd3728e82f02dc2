-- The state that a machine starts in is well placed.
use Rattle.std.proofs.Common.{◌≡◌, ℕ, zero, suc, ◌+◌, ◌*◌, ◌<◌, ◌≤◌, ◌==◌, List, [], ◌∷◌, length, get_or, set, true, cond, Option, None, refl, sym, ◌∙◌, ap, subst, arith, inl, inr, IfSome}
use Rattle.std.specs.Prelude.{fold, replicate}
use Rattle.std.specs.List.{AllByRecursion, enumerate_from, sum_by, count_by}
use Rattle.std.proofs.lemmas.Bool.{cases_lt}
use Rattle.std.proofs.lemmas.List.{get_or-replicate, get_or_past, get_or-set_other, length-replicate}
use Rattle.std.proofs.lemmas.List.Sums.{sum_by-cons}
use Rattle.std.proofs.lemmas.List.Folds.{sum_by-replicate}
use Rattle.hp_units.specs.declared.rows.Boot.{Boot}
use Rattle.hp_units.specs.declared.rows.Boot.TheVariants.{Offline as OfflineBoot, Normal as NormalBoot, Movable as MovableBoot, Absent as AbsentBoot}
use Rattle.hp_units.specs.declared.rows.Kind.{Kind}
use Rattle.hp_units.specs.declared.rows.Row.{Row}
use Rattle.hp_units.specs.declared.rows.Mobility.TheVariants.{Unmovable}
use Rattle.hp_units.specs.LayoutParts.{LayoutParts, IsLayout}
use Rattle.hp_units.specs.Arithmetic.{block_of, block_of_pageblock, frame_count, pageblock_count}
use Rattle.hp_units.specs.Memory.{Memory, class_index, offline_row, plain_kind, pool_index, row_of}
use Rattle.hp_units.specs.FreeAreas.{is_on}
use Rattle.hp_units.specs.Pages.{holds}
use Rattle.hp_units.specs.Rows.{is_going, online_block}
use Rattle.hp_units.specs.Boot.{boot_block, boot_memory, empty_memory}
use Rattle.hp_units.specs.Placement.{IsKernelAt, IsWellPlaced, cached_places, free_places, kernel_places, mapped_places, offline_places, places_from}
use Rattle.hp_units.proofs.KernelBlockFrames.{kernel_covered}
use Rattle.hp_units.proofs.Lists.{at_replicate as same_everywhere}
use Rattle.hp_laws.proofs.Rows.{unplugged-placed}
use Rattle.hp_laws.proofs.Onlines.{online_block-placed}

-- ---- nothing is anywhere in an empty memory

no_free : (frame number n : ℕ) → places_from frame number (replicate n []) ≡ 0
no_free frame number zero = refl
no_free frame number (suc n) = omega (arith, no_free frame (number + 1) n)

no_kernel : (frame from n : ℕ)
    → sum_by (λ (e : ℕ × Option ℕ). kernel_covered frame e.0 e.1) (enumerate_from from (replicate n None)) ≡ 0
no_kernel frame from zero = refl
no_kernel frame from (suc n) =
    omega (
      arith,
      sum_by-cons (λ (e : ℕ × Option ℕ). kernel_covered frame e.0 e.1) (from, None)
          (enumerate_from (from + 1) (replicate n None)),
      no_kernel frame (from + 1) n,
    )

all_same : {X : Type 0} (P : X → Type 0) (n : ℕ) (x : X) → P x → AllByRecursion P (replicate n x)
all_same P zero x h = tt
all_same P (suc n) x h = (h, all_same P n x h)

no_entry : (A : Type 0) (none : Option A) (owners pages owner page : ℕ) → none ≡ None
    → get_or (get_or (replicate owners (replicate pages none)) owner []) page none ≡ None
no_entry A none owners pages owner page e = elim (cases_lt owner owners) [
  | inl low ↦
      rw (get_or-replicate owners owner (replicate pages none) [] low) (same_everywhere pages page none ∙ e)
  | inr high ↦
      rw (get_or_past (replicate owners (replicate pages none)) owner []
      (omega (arith, length-replicate owners (replicate pages none)))) e
]

off_none : (frame : ℕ) (frames : List ℕ) → frames ≡ [] → is_on frame frames ≡ true → ⊥
off_none frame [] e on = cc
off_none frame (x ∷ xs) e on = cc

plain_movable : (m : Kind) → m ≡ plain_kind → m.mobility ≡ Unmovable → ⊥
plain_movable m e u = cc (rw e at u)

pub empty-placed : (l : LayoutParts) → IsWellPlaced l (empty_memory l)
empty-placed l = record {
  in_order = record {
    shape = record {
      lists = length-replicate (5 * (l.order + 1)) [];
      kinds = length-replicate (pageblock_count l) plain_kind;
      cached = length-replicate (3 * l.cpus) [];
      owners = length-replicate l.owners (replicate l.pages None);
      pages = all_same _ l.owners (replicate l.pages None) (length-replicate l.pages None);
      content_owners = length-replicate l.owners (replicate l.pages None);
      content_pages = all_same _ l.owners (replicate l.pages None) (length-replicate l.pages None);
      kernel = length-replicate (frame_count l) None;
      rows = length-replicate l.blocks offline_row;
    };
    blocks =
        λ class order first on.
        absurd (off_none first _ (same_everywhere (5 * (l.order + 1)) (5 * order + class_index class) []) on);
    joined =
        λ class order first below on.
        absurd (off_none first _ (same_everywhere (5 * (l.order + 1)) (5 * order + class_index class) []) on);
    cached =
        λ cpu pool frame on.
        absurd (off_none frame _ (same_everywhere (3 * l.cpus) (3 * cpu + pool_index pool) []) on);
    kernel =
        λ first. subst (λ (o : Option ℕ). IfSome o (IsKernelAt l (replicate l.blocks offline_row) first))
        (sym (same_everywhere (frame_count l) first None)) tt;
    mobility =
        λ pageblock unmovable.
        absurd (plain_movable _ (same_everywhere (pageblock_count l) pageblock plain_kind) unmovable);
    isolated =
        λ pageblock. ap (λ (k : Kind). k.isolated) (same_everywhere (pageblock_count l) pageblock plain_kind)
        ∙ sym (ap is_going (same_everywhere l.blocks (block_of_pageblock l pageblock) offline_row));
    rows = λ block. rw (same_everywhere l.blocks block offline_row) (refl, refl);
    words =
        λ owner page. rw (no_entry ℕ None l.owners l.pages owner page refl)
        (rw (no_entry (List ℕ) None l.owners l.pages owner page refl) tt);
  };
  once = λ frame.
      let offline : offline_places l (empty_memory l) frame ≡ 1 =
      rw (same_everywhere l.blocks (block_of l frame) offline_row) in
      let free : free_places (empty_memory l).free.areas frame ≡ 0 = no_free frame 0 (5 * (l.order + 1)) in
      let cached : cached_places (empty_memory l).free frame ≡ 0 = cached_none frame (3 * l.cpus) in
      let mapped : mapped_places (empty_memory l).pages frame ≡ 0 = mapped_none frame l.owners l.pages in
      let kernel : kernel_places (empty_memory l) frame ≡ 0 = no_kernel frame 0 (frame_count l) in
      omega arith;
}
  where
    cached_none : (frame n : ℕ)
        → sum_by (λ (frames : List ℕ). count_by (λ other. other == frame) frames) (replicate n []) ≡ 0
    cached_none frame n =
        omega (arith, sum_by-replicate (λ (frames : List ℕ). count_by (λ other. other == frame) frames) n [])

    row_none : (frame n : ℕ) → count_by (holds frame) (replicate n None) ≡ 0
    row_none frame n = omega (arith, sum_by-replicate (λ (e : Option ℕ). cond (holds frame e) 1 0) n None)

    mapped_none : (frame owners pages : ℕ)
        → sum_by (λ (row : List (Option ℕ)). count_by (holds frame) row)
        (replicate owners (replicate pages None)) ≡ 0
    mapped_none frame owners pages =
        let none : count_by (holds frame) (replicate pages None) ≡ 0 = row_none frame pages in
        let all : sum_by (λ (row : List (Option ℕ)). count_by (holds frame) row)
        (replicate owners (replicate pages None)) ≡ owners * 0 =
        rw (sum_by-replicate (λ (row : List (Option ℕ)). count_by (holds frame) row) owners) (rw none) in
        omega arith

-- ---- each block becomes what the layout says

-- one block of a state whose later blocks are offline
record BootsOn (l : LayoutParts) (from : ℕ) (s : Memory) : Type 0 where
  pub placed : IsWellPlaced l s
  pub later : (block : ℕ) → from ≤ block → row_of s.blocks block ≡ offline_row

later_rows : (rows : List Row) (from : ℕ) (row : Row)
    → ((block : ℕ) → from ≤ block → get_or rows block offline_row ≡ offline_row)
    → (block : ℕ) → from + 1 ≤ block → get_or (set rows from row) block offline_row ≡ offline_row
later_rows rows from row h block above =
    get_or-set_other rows from block row offline_row (λ same. absurd (omega arith)) ∙ h block (omega arith)

boot_block-placed : (l : LayoutParts) (s : Memory) (block : ℕ) (boot : Boot) → IsLayout l → block < l.blocks
    → BootsOn l block s → BootsOn l (block + 1) (boot_block l s block boot)
unfolding online_block
boot_block-placed l s block OfflineBoot layout low h =
    record { placed = h.placed; later = λ other above. h.later other (omega arith) }
boot_block-placed l s block NormalBoot layout low h = record {
  placed =
      online_block-placed l _ s block layout h.placed (rw (h.later block (omega arith)))
      low;
  later = later_rows _ block _ h.later;
}
boot_block-placed l s block MovableBoot layout low h = record {
  placed =
      online_block-placed l _ s block layout h.placed (rw (h.later block (omega arith)))
      low;
  later = later_rows _ block _ h.later;
}
boot_block-placed l s block AbsentBoot layout low h = record {
  placed =
      unplugged-placed l s block _ h.placed
      (rw (h.later block (omega arith))) low (refl, refl) refl refl;
  later = later_rows _ block _ h.later;
}

boots-placed : (l : LayoutParts) (s : Memory) (from : ℕ) (boots : List Boot) → IsLayout l
    → from + length boots ≤ l.blocks → BootsOn l from s
    → IsWellPlaced l (fold (λ t entry. boot_block l t entry.0 entry.1) s (enumerate_from from boots))
boots-placed l s from [] layout low h = h.placed
boots-placed l s from (boot ∷ boots) layout low h =
    boots-placed l (boot_block l s from boot) (from + 1) boots layout (omega arith)
    (boot_block-placed l s from boot layout (omega arith) h)

-- the state that a machine starts in is well placed
pub boot-placed : (l : LayoutParts) → IsLayout l → IsWellPlaced l (boot_memory l)
unfolding boot_memory
boot-placed l layout =
    boots-placed l _ 0 l.boot layout (omega (arith, layout.boot))
    (record { placed = empty-placed l; later = λ block above. same_everywhere _ block _ })
