-- Single frames for the kernel and for pages; pages mapped, unmapped, written and moved.
use Rattle.std.proofs.Common.{◌≡◌, ℕ, zero, suc, ◌%◌, ◌^◌, ◌<◌, ◌≤◌, List, length, set, Option, Some, None, refl, sym, ◌∙◌, ap, subst, arith, IfSome, length-set}
use Rattle.std.proofs.lemmas.List.{length-replicate}
use Rattle.std.specs.Option.{option_map, option_map_or, option_or}
use Rattle.hp_units.specs.declared.rows.Mobility.TheVariants.{Unmovable, Movable}
use Rattle.hp_units.specs.declared.rows.Pool.TheVariants.{Nu as NuPool, Nm as NmPool, Mm as MmPool}
use Rattle.hp_units.specs.declared.rows.Zone.{Zone}
use Rattle.hp_units.specs.declared.rows.Zone.TheVariants.{Normal as NormalZone, Movable as MovableZone}
use Rattle.hp_units.specs.LayoutParts.{LayoutParts, IsLayout}
use Rattle.hp_units.specs.Arithmetic.{frame_count, pageblock_of}
use Rattle.hp_units.specs.Memory.{Memory, entry_of, kernel_order, with_kernel_order}
use Rattle.hp_units.specs.FreeAreas.{steal_block}
use Rattle.hp_units.specs.Pages.{frame_at, fresh_words, map_page, words_at, write_word}
use Rattle.hp_units.specs.ProcessorLists.{Handed, handed_from, kernel_frame, page_frame, put_one, take_one}
use Rattle.hp_units.specs.Rows.{zone_of}
use Rattle.hp_units.specs.Step.{done, give_back, kernel_gives, kernel_takes, map_step, unmap_step, with_free, with_pages, Answered}
use Rattle.hp_units.specs.Placement.{IsInOrder, IsKernelAt, IsPage, IsWellPlaced, kernel_places, mapped_places, row_at}
use Rattle.hp_laws.proofs.Options.{some_weaker, option_cases}
use Rattle.hp_units.proofs.ListEdits.{covered-self}
use Rattle.hp_laws.proofs.States.{in_layout, kernel-in_order, kernel_free, kernel_give-placed, zone_known}
use Rattle.hp_units.proofs.KernelBlockFrames.{kernel-places}
use Rattle.hp_laws.proofs.Steals.{or_some, steal_block-placed, kernel_takes-placed}
use Rattle.hp_laws.proofs.Hands.{HandsPlaced}
use Rattle.hp_laws.proofs.Puts.{handed_from-placed, put_one-placed, take_one-placed}
use Rattle.hp_laws.proofs.Tables.{HasZone, both-in_order, live_row, pages-in_order}
use Rattle.hp_units.proofs.Tables.{contents_of, entry-cases, entry_within, held-some, mapped-places, mapped_some, table_of, with_entry-table}

-- ---- a single frame for the kernel

pub kernel_frame-placed : (l : LayoutParts) (s : Memory) (cpu : ℕ) → cpu < l.cpus → IsLayout l
    → IsWellPlaced l s → IfSome (kernel_frame l s.free cpu) (HandsPlaced l s NormalZone)
kernel_frame-placed l s cpu low layout p =
    or_some (HandsPlaced l s NormalZone) (take_one l s.free cpu NuPool)
    (handed_from s.free (steal_block l s.free.areas Unmovable 0)) (take_one-placed l s cpu NuPool low p)
    (handed_from-placed l s NormalZone (steal_block l s.free.areas Unmovable 0)
    (steal_block-placed l s Unmovable 0 layout p))

kernel_handed-placed : (l : LayoutParts) (s : Memory) (handed : Handed) → IsLayout l → IsWellPlaced l s
    → HandsPlaced l s NormalZone handed
    → IsWellPlaced l (with_kernel_order (with_free s handed.free) handed.frame (Some 0))
kernel_handed-placed l s handed layout p t =
    let within : handed.frame < frame_count l = in_layout l s _ _ layout p.in_order.shape.rows t.zone_is in
    let short : handed.frame < length s.kernel = omega (arith, p.in_order.shape.kernel) in
    let gone : kernel_places s handed.frame ≡ 0 =
    omega (arith, p.once handed.frame, t.places handed.frame, covered-self 0 handed.frame) in
    let none : kernel_order s handed.frame ≡ None = kernel_free l s _ _ refl short gone in
    let even : handed.frame % 2 ^ 0 ≡ 0 = omega arith in
    record {
      in_order =
          kernel-in_order l _ _ _ t.in_order within
          (record { in_order = omega arith; aligned = even; normal = t.zone_is });
      once =
          λ frame. omega (
            arith,
            p.once frame,
            t.places frame,
            rw none at (kernel-places s handed.frame frame (Some 0) short),
          );
    }

pub kernel_alloc-placed : (l : LayoutParts) (s : Memory) (cpu order : ℕ) → cpu < l.cpus → IsLayout l
    → IsWellPlaced l s → order ≤ l.order → IsWellPlaced l (kernel_takes l s cpu order).memory
unfolding kernel_takes
kernel_alloc-placed l s cpu (suc below) low layout p high = kernel_takes-placed l s cpu below layout p high
kernel_alloc-placed l s cpu zero low layout p high =
    option_cases (λ (a : Answered). IsWellPlaced l a.memory) _ (kernel_frame l s.free cpu) _
    (λ handed is. kernel_handed-placed l s handed layout p
    (rw is at (kernel_frame-placed l s cpu low layout p))) (λ none. p)

-- ---- the kernel gives a block back

kernel_single-placed : (l : LayoutParts) (s : Memory) (cpu frame : ℕ) → cpu < l.cpus → IsLayout l
    → IsWellPlaced l s → kernel_order s frame ≡ Some 0
    → IsWellPlaced l
    (with_free (with_kernel_order s frame None) (put_one l s.free cpu (zone_of l s frame) frame))
kernel_single-placed l s cpu frame low layout p e =
    let block : IsKernelAt l s.blocks.rows frame 0 =
    subst (λ (o : Option ℕ). IfSome o (IsKernelAt l s.blocks.rows frame)) e (p.in_order.kernel frame) in
    let within : frame < frame_count l = in_layout l s frame _ layout p.in_order.shape.rows block.normal in
    let short : frame < length s.kernel = omega (arith, p.in_order.shape.kernel) in
    let zone : (row_at l s.blocks.rows (pageblock_of l frame)).zone ≡ Some (zone_of l s frame) =
    block.normal ∙ ap (λ (z : Zone). Some z) (sym (zone_known l s frame _ block.normal)) in
    put_one-placed l _ cpu _ frame low (kernel-in_order l s frame None p.in_order within tt) zone
    (λ other. omega (arith, p.once other, rw e at (kernel-places s frame other None short)))

pub kernel_free-placed : (l : LayoutParts) (s : Memory) (cpu frame : ℕ) → cpu < l.cpus → IsLayout l
    → IsWellPlaced l s → IsWellPlaced l (kernel_gives l s cpu frame).memory
unfolding kernel_gives
kernel_free-placed l s cpu frame low layout p = by_order _ refl
  where
    by_order : (o : Option ℕ) → kernel_order s frame ≡ o
        → IsWellPlaced l (option_map_or
        (λ order. done (give_back l (with_kernel_order s frame None) cpu frame order)) o (done s)).memory
    by_order None e = p
    by_order (Some zero) e = kernel_single-placed l s cpu frame low layout p e
    by_order (Some (suc below)) e = kernel_give-placed l s frame _ layout p e

-- ---- Map

-- a frame of some zone is handed out
abbrev pub HandsSome : LayoutParts → Memory → Handed → Type 0
HandsSome l s handed = (zone : Zone) × HandsPlaced l s zone handed

pub page_frame-placed : (l : LayoutParts) (s : Memory) (cpu : ℕ) → cpu < l.cpus → IsLayout l
    → IsWellPlaced l s → IfSome (page_frame l s.free cpu) (HandsSome l s)
page_frame-placed l s cpu low layout p =
    or_some (HandsSome l s) (take_one l s.free cpu MmPool)
    (option_or (take_one l s.free cpu NmPool) (handed_from s.free (steal_block l s.free.areas Movable 0)))
    (some_weaker (HandsPlaced l s MovableZone) (HandsSome l s) (λ handed h. (MovableZone, h))
    (take_one l s.free cpu MmPool) (take_one-placed l s cpu MmPool low p))
    (or_some (HandsSome l s) (take_one l s.free cpu NmPool)
    (handed_from s.free (steal_block l s.free.areas Movable 0))
    (some_weaker (HandsPlaced l s NormalZone) (HandsSome l s) (λ handed h. (NormalZone, h))
    (take_one l s.free cpu NmPool) (take_one-placed l s cpu NmPool low p))
    (some_weaker (HandsPlaced l s NormalZone) (HandsSome l s) (λ handed h. (NormalZone, h))
    (handed_from s.free (steal_block l s.free.areas Movable 0))
    (handed_from-placed l s NormalZone (steal_block l s.free.areas Movable 0)
    (steal_block-placed l s Movable 0 layout p))))

mapped-placed : (l : LayoutParts) (s : Memory) (owner page : ℕ) (zone : Zone) (handed : Handed)
    → owner < l.owners → page < l.pages → IsWellPlaced l s → frame_at s.pages owner page ≡ None
    → HandsPlaced l s zone handed
    → IsWellPlaced l
    (with_pages (with_free s handed.free) (map_page s.pages owner page handed.frame (fresh_words l)))
mapped-placed l s owner page zone handed low short p e t = record {
  in_order =
      both-in_order l _ owner page _ _ low short
      t.in_order (length-replicate l.words 0);
  once = λ frame.
      let places =
      rw e at (mapped-places l.owners l.pages s.pages.table owner page (Some handed.frame) frame low short
      (table_of l s p.in_order)) in
      omega (arith, p.once frame, t.places frame, places, held-some frame handed.frame);
}

pub map-placed : (l : LayoutParts) (s : Memory) (cpu owner page : ℕ) → cpu < l.cpus → IsLayout l
    → IsWellPlaced l s → owner < l.owners → page < l.pages → frame_at s.pages owner page ≡ None
    → IsWellPlaced l (map_step l s cpu owner page).memory
unfolding map_step
map-placed l s cpu owner page low layout p some_owner some_page e =
    option_cases (λ (a : Answered). IsWellPlaced l a.memory) _ (page_frame l s.free cpu) _ (λ handed is.
    let h = rw is at (page_frame-placed l s cpu low layout p) in
    mapped-placed l s owner page h.0 handed some_owner some_page p e h.1) (λ none. p)

-- ---- Unmap

-- a mapped frame's block has a zone
pub mapped_zone : (l : LayoutParts) (s : Memory) (owner page frame : ℕ) → IsWellPlaced l s
    → frame_at s.pages owner page ≡ Some frame
    → (row_at l s.blocks.rows (pageblock_of l frame)).zone ≡ Some (zone_of l s frame)
mapped_zone l s owner page frame p e =
    let some : 1 ≤ mapped_places s.pages frame =
    mapped_some _ _ _ owner page frame (table_of l s p.in_order) e in
    let has : HasZone l s.blocks.rows frame = live_row l s frame p.in_order (omega (arith, p.once frame)) in
    has.zone_is ∙ ap (λ (z : Zone). Some z) (sym (zone_known l s frame _ has.zone_is))

pub unmap-placed : (l : LayoutParts) (s : Memory) (cpu owner page : ℕ) → cpu < l.cpus → IsWellPlaced l s
    → IsWellPlaced l (unmap_step l s cpu owner page).memory
unfolding unmap_step
unmap-placed l s cpu owner page low p =
    option_cases (λ (a : Answered). IsWellPlaced l a.memory) _ _ _ (λ frame e.
    let table = table_of l s p.in_order in
    let within = entry_within _ _ _ owner page frame table e in
    put_one-placed l _ cpu _ frame low
    (both-in_order l s owner page None None within.owner_in within.page_in p.in_order tt)
    (mapped_zone l s owner page frame p e)
    (λ other. omega (
      arith,
      p.once other,
      rw e at (mapped-places _ l.pages _ owner page None other within.owner_in
          within.page_in table),
      held-some other frame,
    ))) (λ none. p)

-- ---- Write

page_written : (l : LayoutParts) (f : Option ℕ) (w : Option (List ℕ)) (index value : ℕ) → IsPage l f w
    → IsPage l f (option_map (λ words. set words index value) w)
page_written l None None index value h = tt
page_written l (Some frame) (Some words) index value h = length-set words index value ∙ h
page_written l _ _ index value h = absurd h

pub write-placed : (l : LayoutParts) (s : Memory) (owner page index value : ℕ) → IsWellPlaced l s
    → owner < l.owners → page < l.pages
    → IsWellPlaced l (with_pages s (write_word s.pages owner page index value))
write-placed l s owner page index value p low short =
    let h : IsInOrder l s = p.in_order in
    let w : Option (List ℕ) = option_map (λ words. set words index value) (words_at s.pages owner page) in
    let contents = contents_of l s h in
    record {
      in_order =
          pages-in_order l s _ h (table_of l s h) (with_entry-table _ _ _ owner page w low contents)
          (entry-cases (λ (o q : ℕ) (e : Option (List ℕ)). IsPage l (entry_of s.pages.table o q) e) _
          _ _ owner page w low short contents (page_written l _ _ index value
          (h.words owner page)) (λ o q elsewhere. h.words o q));
      once = p.once;
    }
