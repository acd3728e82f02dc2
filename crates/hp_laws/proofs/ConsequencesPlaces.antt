-- Frames of processors' lists, kernel's blocks and pages lie in blocks with a zone, and no list is
-- longer than there are frames.
use Rattle.std.proofs.Common.{◌≡◌, ℕ, zero, suc, ◌+◌, ◌*◌, ◌<◌, ◌≤◌, List, [], ◌∷◌, length, get_or, true, false, Option, Some, None, refl, ◌∙◌, subst, arith, inl, inr, IfSome, ◌==◌, ◌||◌}
use Rattle.std.specs.List.{count_by}
use Rattle.std.specs.Option.{option_map}
use Rattle.std.proofs.lemmas.Bool.{cases_lt, false_from_ne_true}
use Rattle.std.proofs.lemmas.Bool.Decides.{nat_tests}
use Rattle.std.proofs.lemmas.List.{get_or_past}
use Rattle.std.proofs.lemmas.List.Sums.{get_or-le-sum_by}
use Rattle.hp_units.specs.declared.rows.Class.{Class}
use Rattle.hp_units.specs.declared.rows.Claim.{Claim}
use Rattle.hp_units.specs.declared.rows.Pool.{Pool}
use Rattle.hp_units.specs.declared.rows.Row.{Row}
use Rattle.hp_units.specs.declared.rows.State.{State}
use Rattle.hp_units.specs.declared.rows.State.TheVariants.{Offline as OfflineState, Absent as AbsentState}
use Rattle.hp_units.specs.declared.rows.Zone.{Zone}
use Rattle.hp_units.specs.declared.rows.Zone.TheVariants.{Normal as NormalZone}
use Rattle.hp_units.specs.LayoutParts.{LayoutParts, IsLayout}
use Rattle.hp_units.specs.Arithmetic.{block_of, frame_count, pageblock_of}
use Rattle.hp_units.specs.Memory.{Memory, cached_list, class_index, free_list, kernel_order, offline_row, pool_index, row_of, zone_of_pool}
use Rattle.hp_units.specs.FreeAreas.{class_of_kind, is_on}
use Rattle.hp_units.specs.Pages.{frame_at}
use Rattle.hp_units.specs.Rows.{is_absent_state, is_going_state, is_offline_state, is_online_state}
use Rattle.hp_units.specs.Placement.{IsKernelAt, IsRowOf, IsWellPlaced, cached_places, is_unplugged, kind_at, list_places, mapped_places, offline_places, row_at, covered}
use Rattle.hp_laws.specs.Consequences.{IsFrameOf, IsPluggedIn}
use Rattle.hp_units.proofs.Places.{list_places-cons}
use Rattle.hp_units.proofs.Geometry.{same_above}
use Rattle.hp_units.proofs.ListEdits.{covered-self, list_places-le, on_tail}
use Rattle.hp_laws.proofs.Areas.{has_order}
use Rattle.hp_laws.proofs.States.{areas_of, block_of-pageblock, in_layout}
use Rattle.hp_laws.proofs.Drains.{pool_zone, times, times-cons}
use Rattle.hp_laws.proofs.Tables.{live_row}
use Rattle.hp_units.proofs.Tables.{mapped_some, table_of}
use Rattle.hp_laws.proofs.ConsequencesBlocks.{in_number, on_head}

-- ---- the zone of a frame's block

-- the zone of the pageblock that a frame lies in is that of its block
pub row_zone : (l : LayoutParts) (rows : List Row) (frame : ℕ) (zone : Zone)
    → (row_at l rows (pageblock_of l frame)).zone ≡ Some zone
    → (get_or rows (block_of l frame) offline_row).zone ≡ Some zone
row_zone l rows frame zone e = rw (block_of-pageblock l frame) e

-- a frame on a processor's list
pub cached_zone : (l : LayoutParts) (s : Memory) (cpu : ℕ) (pool : Pool) (frame : ℕ) → IsWellPlaced l s
    → is_on frame (cached_list s.free cpu pool) ≡ true
    → (row_of s.blocks (block_of l frame)).zone ≡ Some (zone_of_pool pool)
cached_zone l s cpu pool frame p on =
    row_zone l _ frame _ (pool_zone _ _ pool (p.in_order.cached cpu pool frame on))

-- a block of the kernel lies in one pageblock
kernel_at : (l : LayoutParts) (s : Memory) (first order : ℕ) → IsWellPlaced l s → (entry : Option ℕ)
    → kernel_order s first ≡ entry → entry ≡ Some order → IsKernelAt l s.blocks.rows first order
kernel_at l s first order p entry is e =
    subst (λ (o : Option ℕ). IfSome o (IsKernelAt l s.blocks.rows first)) (is ∙ e) (p.in_order.kernel first)

-- all of its frames lie in the pageblock that it starts in
pub kernel_inside : (l : LayoutParts) (s : Memory) (first order frame : ℕ) → IsWellPlaced l s
    → kernel_order s first ≡ Some order → IsFrameOf frame order first
    → pageblock_of l frame ≡ pageblock_of l first
kernel_inside l s first order frame p e within =
    let k = kernel_at l s first order p _ refl e in
    same_above frame first order _ k.in_order (in_number frame order first k.aligned within)

-- a frame of the kernel's
pub kernel_zone : (l : LayoutParts) (s : Memory) (first order frame : ℕ) → IsWellPlaced l s
    → kernel_order s first ≡ Some order → IsFrameOf frame order first
    → (row_of s.blocks (block_of l frame)).zone ≡ Some NormalZone
kernel_zone l s first order frame p e within =
    let k = kernel_at l s first order p _ refl e in
    row_zone l _ frame _ (rw (kernel_inside l s first order frame p e within) k.normal)

-- a page's frame is in no offline or absent block
pub page_plugged : (l : LayoutParts) (s : Memory) (owner page frame : ℕ) → IsWellPlaced l s
    → frame_at s.pages owner page ≡ Some frame → offline_places l s frame ≡ 0
page_plugged l s owner page frame p e =
    let some : 1 ≤ mapped_places s.pages frame =
    mapped_some _ _ _ owner page frame (table_of l s p.in_order) e in
    omega (arith, p.once frame)

-- a block that is neither offline nor absent is online or going
plugged_state : (state : State) → (is_offline_state state || is_absent_state state) ≡ false
    → (is_online_state state || is_going_state state) ≡ true
plugged_state OfflineState e = cc
plugged_state AbsentState e = cc
plugged_state _ e = refl

-- the block of a frame that is in no such place
not_unplugged : (l : LayoutParts) (s : Memory) (frame : ℕ) → offline_places l s frame ≡ 0
    → is_unplugged (row_of s.blocks (block_of l frame)) ≡ false
not_unplugged l s frame e =
    false_from_ne_true (is_unplugged (row_of s.blocks (block_of l frame))) (λ is. omega (arith, rw is at e))

-- it is plugged in
pub plugged : (l : LayoutParts) (s : Memory) (frame : ℕ) → IsWellPlaced l s → offline_places l s frame ≡ 0
    → IsPluggedIn l s frame
plugged l s frame p e =
    let live = live_row l s frame p.in_order e in
    record {
      zone = (live.zone, row_zone l _ frame _ live.zone_is);
      state = plugged_state _ (not_unplugged l s frame e);
    }

-- a block with a zone is online or going
zoned_state : (state : State) (zone : Option Zone) (claim : Option Claim) (z : Zone) → zone ≡ Some z
    → IsRowOf state zone claim → (is_online_state state || is_going_state state) ≡ true
zoned_state OfflineState zone claim z e h = cc (e, h.0)
zoned_state AbsentState zone claim z e h = cc (e, h.0)
zoned_state _ zone claim z e h = refl

-- a frame whose block has a zone is plugged in
pub zone_plugged : (l : LayoutParts) (s : Memory) (frame : ℕ) (zone : Zone) → IsWellPlaced l s
    → (row_of s.blocks (block_of l frame)).zone ≡ Some zone → IsPluggedIn l s frame
zone_plugged l s frame zone p e =
    let row : Row = row_of s.blocks (block_of l frame) in
    record {
      zone = (zone, e);
      state = zoned_state _ _ _ zone e (p.in_order.rows (block_of l frame));
    }

-- ---- how long a list is

-- the places of the frames below a number, in blocks on a list
sum_below : ℕ → (ℕ → ℕ) → ℕ
sum_below zero f = 0
sum_below (suc n) f = sum_below n f + f n

-- where each has at most one, there are no more than frames
sum_most : (n : ℕ) (f : ℕ → ℕ) → ((k : ℕ) → f k ≤ 1) → sum_below n f ≤ n
unfolding sum_below
sum_most zero f h = omega arith
sum_most (suc n) f h = omega (arith, sum_most n f h, h n)

-- sums add up
sum_both : (n : ℕ) (f g h : ℕ → ℕ) → ((k : ℕ) → f k ≡ g k + h k)
    → sum_below n f ≡ sum_below n g + sum_below n h
unfolding sum_below
sum_both zero f g h e = refl
sum_both (suc n) f g h e = omega (arith, sum_both n f g h e, e n)

-- a number is once on a list of it alone
times_one : (x k : ℕ) → x ≡ k → times k (x ∷ []) ≡ 1
times_one x k e = grind (arith, nat_tests)

-- a number below another is one of those below it
sum_one : (n x : ℕ) → x < n → 1 ≤ sum_below n (λ k. times k (x ∷ []))
unfolding sum_below
sum_one zero x low = absurd (omega arith)
sum_one (suc n) x low = elim (cases_lt x n) [
  | inl below ↦ omega (arith, sum_one n x below)
  | inr above ↦ (let same : x ≡ n = omega arith in omega (arith, times_one x n same))
]

-- a list of numbers below one has a place for each
length_sum : (n : ℕ) (xs : List ℕ) → ((x : ℕ) → is_on x xs ≡ true → x < n)
    → length xs ≤ sum_below n (λ k. times k xs)
length_sum n [] low = omega arith
length_sum n (x ∷ xs) low =
    omega (
      arith,
      length_sum n xs (λ y on. low y (on_tail y x xs on)),
      sum_one n x (low x (on_head x xs)),
      sum_both n (λ k. times k (x ∷ xs)) (λ k. times k (x ∷ [])) (λ k. times k xs)
          (λ k. omega (arith, times-cons k x xs, times-cons k x [])),
    )

-- numbers below one, each at most once, are no more than that one
pub few_below : (n : ℕ) (xs : List ℕ) → ((x : ℕ) → is_on x xs ≡ true → x < n) → ((k : ℕ) → times k xs ≤ 1)
    → length xs ≤ n
few_below n xs low once = omega (arith, length_sum n xs low, sum_most n (λ k. times k xs) once)

-- a frame is covered as often as it is on the list
times_covered : (k order : ℕ) (xs : List ℕ) → times k xs ≤ list_places k order xs
times_covered k order [] = omega arith
times_covered k order (x ∷ xs) =
    omega (arith, times_covered k order xs, times-cons k x xs, list_places-cons k order x xs, one k x)
  where
    one : (k x : ℕ) → covered k 0 x ≤ covered k order x
    one k x = elim (cases_lt (covered k 0 x) 1) [
      | inl none ↦ omega arith
      | inr some ↦
          (let same = in_single k x some in
          rw (← same) (omega (arith, covered-self order k, covered-self 0 k)))
    ]
      where
        in_single : (k x : ℕ) → 1 ≤ covered k 0 x → k ≡ x
        in_single k x some = grind (arith, nat_tests)

-- a pageblock with a class has a zone
pub class_zone : (zone : Option Zone) {class : Option Class} (f : Zone → Class) (c : Class)
    → class ≡ option_map f zone → class ≡ Some c → (z : Zone) × (zone ≡ Some z)
class_zone None f c is e = cc
class_zone (Some z) f c is e = (z, refl)

-- a free list has no more blocks than there are frames
pub free_length : (l : LayoutParts) (s : Memory) (class : Class) (order : ℕ) → IsLayout l → IsWellPlaced l s
    → length (free_list s.free.areas class order) ≤ frame_count l
free_length l s class order layout p = elim (cases_lt l.order order) [
  | inl above ↦
      let past : free_list s.free.areas class order ≡ [] =
      get_or_past s.free.areas.lists (5 * order + class_index class) []
      (omega (arith, p.in_order.shape.lists)) in
      rw past (omega arith)
  | inr low ↦ few_below _ _ (λ first on.
      let block = p.in_order.blocks class order first on in
      let zone =
      class_zone _ (λ (z : Zone). class_of_kind z
      (kind_at s.free.areas.kinds (pageblock_of l first))) class refl block.class_agrees in
      in_layout l s first zone.0 layout p.in_order.shape.rows zone.1)
      (λ frame. omega (
        arith,
        times_covered frame order (free_list s.free.areas class order),
        list_places-le
            s.free.areas class order frame (has_order l _ _ order (areas_of l s p) low),
        p.once frame,
      ))
]

-- and so has a processor's list
pub cached_length : (l : LayoutParts) (s : Memory) (cpu : ℕ) (pool : Pool) → IsLayout l → IsWellPlaced l s
    → length (cached_list s.free cpu pool) ≤ frame_count l
cached_length l s cpu pool layout p =
    few_below _ _ (λ frame on. in_layout l s frame _ layout p.in_order.shape.rows
    (pool_zone _ _ pool (p.in_order.cached cpu pool frame on)))
    (λ frame. omega (arith, p.once frame, times_le frame))
  where
    times_le : (frame : ℕ) → times frame (cached_list s.free cpu pool) ≤ cached_places s.free frame
    times_le frame = elim (cases_lt (3 * cpu + pool_index pool) (length s.free.cached)) [
      | inl low ↦
          get_or-le-sum_by (λ (frames : List ℕ). count_by (λ other. other == frame) frames) s.free.cached
          (3 * cpu + pool_index pool) [] low
      | inr high ↦
          let past : cached_list s.free cpu pool ≡ [] = get_or_past _ _ [] high in
          rw past (omega arith)
    ]
