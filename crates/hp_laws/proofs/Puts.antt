-- One frame put back by a processor's list, and one handed out.
use Rattle.std.proofs.lemmas.Bool.{or_cases, cases_Bool, or_left, or_right}
use Rattle.std.proofs.Common.{◌≡◌, ℕ, ◌+◌, ◌*◌, ◌<◌, ◌≤◌, List, [], ◌∷◌, length, take, drop, reverse, Bool, true, false, cond, Option, Some, None, refl, ap, arith, inl, inr, IfSome, ◌==◌}
use Rattle.std.specs.Option.{option_map}
use Rattle.std.proofs.lemmas.List.Sums.{sum_by-cons, sum_by-take-drop}
use Rattle.std.proofs.lemmas.List.Sorted.{sum_by-IsPermutation, IsPermutation-reverse}
use Rattle.hp_units.specs.declared.rows.Pool.{Pool}
use Rattle.hp_units.specs.declared.rows.Zone.{Zone}
use Rattle.hp_units.specs.LayoutParts.{LayoutParts}
use Rattle.hp_units.specs.Arithmetic.{pageblock_of}
use Rattle.hp_units.specs.Memory.{FreeFrames, Memory, cached_list, with_cached_list, pool_index, pool_of, zone_of_pool}
use Rattle.hp_units.specs.FreeAreas.{Taken, is_on, class_of_kind, give_block}
use Rattle.hp_units.specs.ProcessorLists.{give_all, handed_from, pop_cached, put_one, refilled, spilled, take_one}
use Rattle.hp_units.specs.Step.{with_free}
use Rattle.hp_units.specs.Placement.{IsInOrder, IsWellPlaced, cached_places, class_at, kind_at, places_of, row_at, covered}
use Rattle.hp_units.proofs.Joins.{give_block-places}
use Rattle.hp_laws.proofs.Ordered.{AreOrdered}
use Rattle.hp_units.proofs.Geometry.{aligned_ancestor}
use Rattle.hp_units.proofs.ListEdits.{on_cases}
use Rattle.hp_laws.proofs.Options.{some_weaker}
use Rattle.hp_laws.proofs.Gives.{give_block-ordered, give_block-kinds}
use Rattle.hp_laws.proofs.States.{areas_of, areas-in_order}
use Rattle.hp_laws.proofs.Steals.{TakesPlaced}
use Rattle.hp_laws.proofs.Drains.{times, times-cons, single, pool_zone, give_all-ordered, cached-in_order}
use Rattle.hp_units.proofs.Pools.{pool_index-lt}
use Rattle.hp_laws.proofs.Hands.{HandsPlaced, cached-places, refilled-placed, pop-placed}

-- ---- parts of a list

on_times : (frame : ℕ) (frames : List ℕ) → is_on frame frames ≡ true → 1 ≤ times frame frames
on_times frame [] on = cc
on_times frame (x ∷ xs) on = elim (or_cases (x == frame) (is_on frame xs) on) [
  | inl same ↦ rw (sum_by-cons (λ y. cond (y == frame) 1 0) x xs, same) (omega arith)
  | inr there ↦ omega (arith, sum_by-cons (λ y. cond (y == frame) 1 0) x xs, on_times frame xs there)
]

times_on : (frame : ℕ) (frames : List ℕ) → 1 ≤ times frame frames → is_on frame frames ≡ true
times_on frame [] some = absurd (omega arith)
times_on frame (x ∷ xs) some = elim (cases_Bool (x == frame)) [
  | inl same ↦ or_left (x == frame) _ same
  | inr apart ↦
      or_right _ _ (times_on frame xs
      (omega (arith, rw (sum_by-cons (λ y. cond (y == frame) 1 0) x xs, apart) at some)))
]

parted : (frame kept : ℕ) (frames : List ℕ)
    → times frame (take kept frames) + times frame (reverse (drop kept frames)) ≡ times frame frames
parted frame kept frames =
    omega (
      arith,
      sum_by-IsPermutation (λ y. cond (y == frame) 1 0) (drop kept frames) (reverse (drop kept frames))
          (IsPermutation-reverse (drop kept frames)),
      sum_by-take-drop (λ y. cond (y == frame) 1 0) frames kept,
    )

-- ---- a list past its mark gives back a batch

pub spill-placed : (l : LayoutParts) (s : Memory) (cpu kept : ℕ) (pool : Pool) → cpu < l.cpus
    → IsWellPlaced l s
    → IsWellPlaced l (with_free s (with_cached_list
    (record s.free {
      areas =
          give_all l s.free.areas (zone_of_pool pool) (reverse (drop kept (cached_list s.free cpu pool)));
    })
    cpu pool (take kept (cached_list s.free cpu pool))))
spill-placed l s cpu kept pool low p =
    let frames : List ℕ = cached_list s.free cpu pool in
    let gone : List ℕ = reverse (drop kept frames) in
    let below : pool_index pool < 3 = pool_index-lt pool in
    let short : 3 * cpu + pool_index pool < length s.free.cached = omega (arith, p.in_order.shape.cached) in
    let left : (frame : ℕ)
    → cached_places (with_cached_list s.free cpu pool (take kept frames)) frame + times frame gone
    ≡ cached_places s.free frame =
    λ frame.
    omega (arith, cached-places s.free cpu pool (take kept frames) frame short, parted frame kept frames) in
    let was : (frame : ℕ) → is_on frame gone ≡ true → is_on frame frames ≡ true =
    λ frame on. times_on frame frames (omega (arith, on_times frame gone on, parted frame kept frames)) in
    let stays : (frame : ℕ) → is_on frame (take kept frames) ≡ true → is_on frame frames ≡ true =
    λ frame on.
    times_on frame frames (omega (arith, on_times frame (take kept frames) on, parted frame kept frames)) in
    let given =
    give_all-ordered l (class_at l s.free.areas.kinds s.blocks.rows) s.free.areas (zone_of_pool pool) gone
    (areas_of l s p) (λ frame on. rw (pool_zone _ _ pool (p.in_order.cached cpu pool frame (was frame on))))
    (λ frame. omega (arith, left frame, p.once frame)) in
    record {
      in_order =
          cached-in_order l _ cpu pool _ (areas-in_order l s _ p.in_order given.ordered given.kinds) low
          (λ frame on. rw given.kinds (p.in_order.cached cpu pool frame (stays frame on)));
      once = λ frame. omega (arith, p.once frame, given.places frame, left frame);
    }

spilled-placed : (l : LayoutParts) (s : Memory) (cpu : ℕ) (pool : Pool) → cpu < l.cpus → IsWellPlaced l s
    → IsWellPlaced l (with_free s (spilled l s.free cpu pool))
spilled-placed l s cpu pool low p = by_mark _ p (spill-placed l s cpu _ pool low p)
  where
    by_mark : (b : Bool) {fs gs : FreeFrames} → IsWellPlaced l (with_free s fs)
        → IsWellPlaced l (with_free s gs) → IsWellPlaced l (with_free s (cond b fs gs))
    by_mark true h k = h
    by_mark false h k = k

-- ---- one frame comes back

pub put_one-placed : (l : LayoutParts) (s : Memory) (cpu : ℕ) (zone : Zone) (frame : ℕ) → cpu < l.cpus
    → IsInOrder l s
    → (row_at l s.blocks.rows (pageblock_of l frame)).zone ≡ Some zone
    → ((other : ℕ) → places_of l s other + covered other 0 frame ≡ 1)
    → IsWellPlaced l (with_free s (put_one l s.free cpu zone frame))
unfolding put_one
put_one-placed l s cpu zone frame low h zone_is room = by_kind _ straight cached
  where
    ordered : AreOrdered l (class_at l s.free.areas.kinds s.blocks.rows) s.free.areas
    ordered =
        record {
          lists = h.shape.lists;
          few = λ other. omega (arith, room other);
          blocks = h.blocks;
          joined = h.joined;
        }

    straight : IsWellPlaced l (with_free s (record s.free { areas = give_block l s.free.areas zone frame 0 }))
    straight =
        let given =
        give_block-ordered l _ _ zone frame 0 (omega arith) (single frame)
        (ap (option_map (λ z. class_of_kind z (kind_at s.free.areas.kinds (pageblock_of l frame)))) zone_is)
        (λ other. omega (arith, room other)) ordered in
        record {
          in_order =
              areas-in_order l s _ h given
              (give_block-kinds l _ zone frame 0);
          once = λ other.
              let places =
              give_block-places l s.free.areas zone frame 0 other ordered.lists (omega arith)
              (aligned_ancestor frame 0 (single frame)) ordered.few in
              omega (arith, places, room other);
        }

    pool : Pool
    pool = pool_of zone (kind_at s.free.areas.kinds (pageblock_of l frame)).mobility

    fronted : IsWellPlaced l
        (with_free s (with_cached_list s.free cpu pool (frame ∷ cached_list s.free cpu pool)))
    fronted =
        let below : pool_index pool < 3 = pool_index-lt pool in
        let short : 3 * cpu + pool_index pool < length s.free.cached = omega (arith, h.shape.cached) in
        record {
          in_order =
              cached-in_order l s cpu pool _ h low
              (λ other on. elim (on_cases other frame _ on) [
                | inl same ↦
                    rw (← same) (rw zone_is)
                | inr there ↦ h.cached cpu pool other there
              ]);
          once =
              λ other. omega (
                arith,
                room other,
                cached-places s.free cpu pool (frame ∷ cached_list s.free cpu
                    pool) other short,
                times-cons other frame (cached_list s.free cpu pool),
              );
        }

    cached : IsWellPlaced l (with_free s
        (spilled l (with_cached_list s.free cpu pool (frame ∷ cached_list s.free cpu pool)) cpu pool))
    cached = spilled-placed l _ cpu pool low fronted

    by_kind : (b : Bool) {fs gs : FreeFrames} → IsWellPlaced l (with_free s fs)
        → IsWellPlaced l (with_free s gs) → IsWellPlaced l (with_free s (cond b fs gs))
    by_kind true h k = h
    by_kind false h k = k

-- ---- one frame is handed out

pub take_one-placed : (l : LayoutParts) (s : Memory) (cpu : ℕ) (pool : Pool) → cpu < l.cpus → IsWellPlaced l s
    → IfSome (take_one l s.free cpu pool) (HandsPlaced l s (zone_of_pool pool))
unfolding take_one
take_one-placed l s cpu pool low p =
    let filled : FreeFrames = refilled l s.free cpu pool in
    let q : IsWellPlaced l (with_free s filled) = refilled-placed l s cpu pool _ refl low p in
    some_weaker (HandsPlaced l (with_free s filled) (zone_of_pool pool)) (HandsPlaced l s (zone_of_pool pool))
    (λ handed h. record {
      in_order = h.in_order;
      places = λ frame. omega (arith, h.places frame, p.once frame, q.once frame);
      zone_is = h.zone_is;
    }) (pop_cached filled cpu pool) (pop-placed l _ cpu pool _ refl low q)

-- what was taken straight from the areas
pub handed_from-placed : (l : LayoutParts) (s : Memory) (zone : Zone) (o : Option Taken)
    → IfSome o (TakesPlaced l s zone 0) → IfSome (handed_from s.free o) (HandsPlaced l s zone)
handed_from-placed l s zone None h = tt
handed_from-placed l s zone (Some taken) h =
    record { in_order = h.in_order; places = λ frame. omega (arith, h.places frame); zone_is = h.zone_is }
