-- One frame handed out by a processor's list.
use Rattle.std.proofs.Common.{◌≡◌, ℕ, ◌+◌, ◌*◌, ◌<◌, List, [], ◌∷◌, length, Bool, true, false, cond, Option, Some, refl, subst, arith, IfSome, eq-eqb, ◌==◌}
use Rattle.std.specs.Option.{option_map}
use Rattle.std.proofs.lemmas.Bool.{or_left}
use Rattle.std.proofs.lemmas.List.Sums.{sum_by-set}
use Rattle.hp_units.specs.declared.rows.Pool.{Pool}
use Rattle.hp_units.specs.declared.rows.Pool.TheVariants.{Nu as NuPool, Nm as NmPool, Mm as MmPool}
use Rattle.hp_units.specs.declared.rows.Kind.{Kind}
use Rattle.hp_units.specs.declared.rows.Zone.{Zone}
use Rattle.hp_units.specs.declared.rows.Zone.TheVariants.{Normal as NormalZone, Movable as MovableZone}
use Rattle.hp_units.specs.declared.rows.Mobility.{Mobility}
use Rattle.hp_units.specs.declared.rows.Mobility.TheVariants.{Unmovable, Movable}
use Rattle.hp_units.specs.LayoutParts.{LayoutParts}
use Rattle.hp_units.specs.Arithmetic.{pageblock_of}
use Rattle.hp_units.specs.Memory.{FreeFrames, Memory, cached_list, with_cached_list, pool_index, pool_of, zone_of_pool, class_of_pool, isolated_class, usable_class}
use Rattle.hp_units.specs.FreeAreas.{is_on, class_of_kind}
use Rattle.hp_units.specs.ProcessorLists.{Handed, Refill, take_frames, refilled_from, pop_from}
use Rattle.hp_units.specs.Step.{with_free}
use Rattle.hp_units.specs.Placement.{free_places, cached_places, IsInOrder, IsWellPlaced, class_at, pool_at, row_at, covered}
use Rattle.hp_units.proofs.ListEdits.{on_tail}
use Rattle.hp_laws.proofs.States.{areas_of, areas-in_order}
use Rattle.hp_laws.proofs.Drains.{times, times-cons, pool_zone, RefillOrdered, take_frames-ordered, cached-in_order}
use Rattle.hp_units.proofs.Pools.{pool_index-lt}

-- what a processor hands out: the frame leaves its place, and it was one of the pool
pub record HandsPlaced (l : LayoutParts) (s : Memory) (zone : Zone) (handed : Handed) : Type 0 where
  pub in_order : IsInOrder l (with_free s handed.free)
  pub places : (frame : ℕ)
      → free_places handed.free.areas frame + cached_places handed.free frame + covered frame 0 handed.frame
      ≡ free_places s.free.areas frame + cached_places s.free frame
  pub zone_is : (row_at l s.blocks.rows (pageblock_of l handed.frame)).zone ≡ Some zone

pub class_pool : (zone : Option Zone) (kind : Kind) (pool : Pool)
    → option_map (λ z. class_of_kind z kind) zone ≡ Some (class_of_pool pool)
    → option_map (λ z. pool_of z kind.mobility) zone ≡ Some pool
class_pool zone kind pool e = cases zone _ _ pool e
  where
    cases : (zone : Option Zone) (isolated : Bool) (m : Mobility) (pool : Pool)
        → option_map (λ z. cond isolated (isolated_class z) (usable_class z m)) zone
        ≡ Some (class_of_pool pool)
        → option_map (λ z. pool_of z m) zone ≡ Some pool
    cases (Some NormalZone) false Unmovable NuPool e = refl
    cases (Some NormalZone) false Movable NmPool e = refl
    cases (Some MovableZone) false m MmPool e = refl
    cases (Some NormalZone) true m NuPool e = cc
    cases (Some MovableZone) true m NuPool e = cc
    cases _ _ _ _ e = cc

-- a pageblock whose free blocks are of a pool's class isn't isolated
pub class_shown : (zone : Option Zone) (kind : Kind) (pool : Pool)
    → option_map (λ z. class_of_kind z kind) zone ≡ Some (class_of_pool pool) → kind.isolated ≡ false
class_shown zone kind pool e = cases zone _ _ pool e
  where
    cases : (zone : Option Zone) (isolated : Bool) (m : Mobility) (pool : Pool)
        → option_map (λ z. cond isolated (isolated_class z) (usable_class z m)) zone
        ≡ Some (class_of_pool pool)
        → isolated ≡ false
    cases zone false m pool e = refl
    cases (Some NormalZone) true m NuPool e = cc
    cases (Some MovableZone) true m NuPool e = cc
    cases _ true m _ e = cc

pub cached-places : (fs : FreeFrames) (cpu : ℕ) (pool : Pool) (frames : List ℕ) (frame : ℕ)
    → 3 * cpu + pool_index pool < length fs.cached
    → cached_places (with_cached_list fs cpu pool frames) frame + times frame (cached_list fs cpu pool)
    ≡ cached_places fs frame + times frame frames
cached-places fs cpu pool frames frame h =
    sum_by-set (λ (xs : List ℕ). times frame xs) fs.cached (3 * cpu + pool_index pool) frames [] h

-- a list that is empty is refilled
pub refilled-placed : (l : LayoutParts) (s : Memory) (cpu : ℕ) (pool : Pool) (frames : List ℕ)
    → cached_list s.free cpu pool ≡ frames → cpu < l.cpus → IsWellPlaced l s
    → IsWellPlaced l (with_free s (refilled_from l s.free cpu pool frames))
refilled-placed l s cpu pool (x ∷ xs) e low p = p
refilled-placed l s cpu pool [] e low p =
    let below : pool_index pool < 3 = pool_index-lt pool in
    let refill : Refill = take_frames l pool l.batch s.free.areas in
    let short : 3 * cpu + pool_index pool < length s.free.cached = omega (arith, p.in_order.shape.cached) in
    let taken : RefillOrdered l (class_at l s.free.areas.kinds s.blocks.rows) s.free.areas
    (class_of_pool pool) refill = take_frames-ordered l _ pool l.batch _ (areas_of l s p) in
    let areas = areas-in_order l s _ p.in_order taken.ordered taken.kinds in
    record {
      in_order = cached-in_order l _ cpu pool _ areas low (λ frame on. rw taken.kinds (class_pool _
          _ pool (taken.classes frame on)));
      once =
          λ frame. omega (
            arith,
            p.once frame,
            taken.places frame,
            rw e at (cached-places s.free cpu pool refill.frames frame short),
          );
    }

pub pop-placed : (l : LayoutParts) (s : Memory) (cpu : ℕ) (pool : Pool) (frames : List ℕ)
    → cached_list s.free cpu pool ≡ frames → cpu < l.cpus → IsWellPlaced l s
    → IfSome (pop_from s.free cpu pool frames) (HandsPlaced l s (zone_of_pool pool))
pop-placed l s cpu pool [] e low p = tt
pop-placed l s cpu pool (x ∷ xs) e low p =
    let below : pool_index pool < 3 = pool_index-lt pool in
    let short : 3 * cpu + pool_index pool < length s.free.cached = omega (arith, p.in_order.shape.cached) in
    let of : (frame : ℕ) → is_on frame (x ∷ xs) ≡ true
    → pool_at l s.free.areas.kinds s.blocks.rows (pageblock_of l frame) ≡ Some pool =
    subst (λ (ys : List ℕ). (frame : ℕ) → is_on frame ys ≡ true → pool_at l s.free.areas.kinds s.blocks.rows
    (pageblock_of l frame) ≡ Some pool) e (p.in_order.cached cpu pool) in
    record {
      in_order =
          cached-in_order l s cpu pool xs p.in_order low (λ frame on. of frame (on_tail frame x xs on));
      places =
          λ frame.
          omega (arith, rw e at (cached-places s.free cpu pool xs frame short), times-cons frame x xs);
      zone_is = pool_zone _ _ pool (of x (or_left (x == x) (is_on x xs) (eq-eqb x x refl)));
    }
