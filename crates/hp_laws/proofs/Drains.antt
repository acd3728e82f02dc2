-- The processors' lists: frames given back one after another, frames taken one after another, a
-- list written; Drain.
use Rattle.std.proofs.Common.{◌≡◌, ℕ, zero, suc, ◌+◌, ◌*◌, ◌%◌, ◌^◌, ◌<◌, ◌≤◌, List, [], ◌∷◌, length, get_or, set, true, cond, Option, Some, None, refl, sym, ◌∙◌, ap, subst, arith, inl, inr, IfSome, length-set, eq-eqb, ◌==◌}
use Rattle.std.specs.List.{count_by}
use Rattle.std.specs.Option.{option_map, option_map_or}
use Rattle.std.proofs.lemmas.Bool.{cases_eq, or_left}
use Rattle.std.proofs.lemmas.Bool.Decides.{nat_tests}
use Rattle.std.proofs.lemmas.List.{get_or-set_other, get_or-set_same}
use Rattle.std.proofs.lemmas.List.Sums.{sum_by-cons, sum_by-set}
use Rattle.hp_units.specs.declared.rows.Class.{Class}
use Rattle.hp_units.specs.declared.rows.Pool.{Pool}
use Rattle.hp_units.specs.declared.rows.Pool.TheVariants.{Nu as NuPool, Nm as NmPool, Mm as MmPool}
use Rattle.hp_units.specs.declared.rows.Kind.{Kind}
use Rattle.hp_units.specs.declared.rows.Zone.{Zone}
use Rattle.hp_units.specs.declared.rows.Zone.TheVariants.{Normal as NormalZone, Movable as MovableZone}
use Rattle.hp_units.specs.declared.rows.Mobility.{Mobility}
use Rattle.hp_units.specs.declared.rows.Mobility.TheVariants.{Unmovable, Movable}
use Rattle.hp_units.specs.LayoutParts.{LayoutParts}
use Rattle.hp_units.specs.Arithmetic.{pageblock_of}
use Rattle.hp_units.specs.Memory.{FreeAreas, Memory, cached_list, with_cached_list, pool_index, pool_of, zone_of_pool, class_of_pool}
use Rattle.hp_units.specs.FreeAreas.{Taken, is_on, give_block, class_of, class_of_kind}
use Rattle.hp_units.specs.ProcessorLists.{Refill, with_first, take_frames, give_all, drain_pool, drain_lists}
use Rattle.hp_units.specs.Step.{with_free}
use Rattle.hp_units.specs.Placement.{free_places, cached_places, IsInOrder, IsWellPlaced, class_at, pool_at, kind_at, covered}
use Rattle.hp_units.proofs.Joins.{give_block-places}
use Rattle.hp_units.proofs.Geometry.{aligned_ancestor}
use Rattle.hp_units.proofs.ListEdits.{on_tail, on_cases}
use Rattle.hp_units.proofs.Pools.{pool_index-lt}
use Rattle.hp_laws.proofs.Ordered.{AreOrdered}
use Rattle.hp_laws.proofs.Takes.{TakesOrdered, take_block-ordered}
use Rattle.hp_laws.proofs.Gives.{give_block-ordered, give_block-kinds}
use Rattle.hp_laws.proofs.States.{areas_of, areas-in_order, reshaped}

-- how often a frame is on a list
abbrev pub times : ℕ → List ℕ → ℕ
times frame frames = count_by (λ other. other == frame) frames

pub times-cons : (frame x : ℕ) (xs : List ℕ) → times frame (x ∷ xs) ≡ covered frame 0 x + times frame xs
times-cons frame x xs = omega (arith, sum_by-cons (λ y. cond (y == frame) 1 0) x xs, one frame x)
  where
    one : (frame x : ℕ) → covered frame 0 x ≡ times frame (x ∷ [])
    one frame x = grind (arith, nat_tests)

pub single : (frame : ℕ) → frame % 2 ^ 0 ≡ 0
single frame = omega arith

-- ---- frames given back

pub record GivesAll (l : LayoutParts) (class_at : ℕ → Option Class) (a : FreeAreas) (frames : List ℕ)
    (b : FreeAreas) : Type 0 where
  pub ordered : AreOrdered l class_at b
  pub places : (frame : ℕ) → free_places b frame ≡ free_places a frame + times frame frames
  pub kinds : b.kinds ≡ a.kinds

pub give_all-ordered : (l : LayoutParts) (class_at : ℕ → Option Class) (a : FreeAreas) (zone : Zone)
    (frames : List ℕ)
    → AreOrdered l class_at a
    → ((frame : ℕ) → is_on frame frames ≡ true
    → class_at (pageblock_of l frame) ≡ Some (class_of l a zone frame))
    → ((frame : ℕ) → free_places a frame + times frame frames ≤ 1)
    → GivesAll l class_at a frames (give_all l a zone frames)
give_all-ordered l class_at a zone [] h agrees room =
    record { ordered = h; places = λ frame. omega arith; kinds = refl }
give_all-ordered l class_at a zone (x ∷ xs) h agrees room =
    let b : FreeAreas = give_block l a zone x 0 in
    let same : b.kinds ≡ a.kinds = give_block-kinds l a zone x 0 in
    let here : (frame : ℕ) → free_places a frame + covered frame 0 x ≤ 1 =
    λ frame. omega (arith, room frame, times-cons frame x xs) in
    let given : (frame : ℕ) → free_places b frame ≡ free_places a frame + covered frame 0 x =
    λ frame.
    give_block-places l a zone x 0 frame h.lists (omega arith) (aligned_ancestor x 0 (single x)) h.few in
    let ordered =
    give_block-ordered l _ a zone x 0 (omega arith) (single x)
    (agrees x (or_left (x == x) (is_on x xs) (eq-eqb x x refl))) here h in
    let rest = give_all-ordered l _ b zone xs ordered (λ frame on. agrees frame (on_tail frame x xs on)
    ∙ ap (λ (ks : List Kind). Some (class_of_kind zone (kind_at ks (pageblock_of l frame)))) (sym same))
    (λ frame. omega (arith, room frame, times-cons frame x xs, given frame)) in
    record {
      ordered = rest.ordered;
      places = λ frame. omega (arith, rest.places frame, given frame, times-cons frame x xs);
      kinds = rest.kinds ∙ same;
    }

-- ---- frames taken

pub record RefillOrdered (l : LayoutParts) (class_at : ℕ → Option Class) (a : FreeAreas) (class : Class)
    (refill : Refill) : Type 0 where
  pub ordered : AreOrdered l class_at refill.areas
  pub places : (frame : ℕ) → free_places refill.areas frame + times frame refill.frames ≡ free_places a frame
  pub classes : (frame : ℕ) → is_on frame refill.frames ≡ true → class_at (pageblock_of l frame) ≡ Some class
  pub kinds : refill.areas.kinds ≡ a.kinds

pub take_frames-ordered : (l : LayoutParts) (class_at : ℕ → Option Class) (pool : Pool) (count : ℕ)
    (a : FreeAreas)
    → AreOrdered l class_at a
    → RefillOrdered l class_at a (class_of_pool pool) (take_frames l pool count a)
unfolding take_frames
take_frames-ordered l class_at pool zero a h =
    record { ordered = h; places = λ frame. omega arith; classes = λ frame on. cc; kinds = refl }
take_frames-ordered l class_at pool (suc count) a h =
    after _ (take_block-ordered l _ a _ 0 h) (take_frames l pool count) (take_frames-ordered l _ pool count)
  where
    after : (o : Option Taken) → IfSome o (TakesOrdered l class_at a (class_of_pool pool) 0)
        → (f : FreeAreas → Refill)
        → ((b : FreeAreas) → AreOrdered l class_at b → RefillOrdered l class_at b (class_of_pool pool) (f b))
        → RefillOrdered l class_at a (class_of_pool pool) (option_map_or
        (λ taken. with_first taken.frame (f taken.areas)) o (record { areas = a; frames = [] }))
    after None t f k =
        record { ordered = h; places = λ frame. omega arith; classes = λ frame on. cc; kinds = refl }
    after (Some taken) t f k =
        let rest = k taken.areas t.ordered in
        record {
          ordered = rest.ordered;
          places =
              λ frame. omega
              (arith, rest.places frame, t.places frame, times-cons frame taken.frame (f taken.areas).frames);
          classes = λ frame on. elim (on_cases frame _ _ on) [
            | inl same ↦ rw (← same) t.block.class_agrees
            | inr there ↦ rest.classes frame there
          ];
          kinds = rest.kinds ∙ t.kinds;
        }

-- ---- a processor's list written

pool_from : ℕ → Pool
pool_from zero = NuPool
pool_from (suc zero) = NmPool
pool_from (suc (suc n)) = MmPool

pool_from-index : (pool : Pool) → pool_from (pool_index pool) ≡ pool
unfolding pool_from
pool_from-index NuPool = refl
pool_from-index _ = refl

same_pool : (cpu other : ℕ) (pool p : Pool) → 3 * other + pool_index p ≡ 3 * cpu + pool_index pool → p ≡ pool
same_pool cpu other pool p e =
    let low : pool_index pool < 3 = pool_index-lt pool in
    let lower : pool_index p < 3 = pool_index-lt p in
    let same : pool_index p ≡ pool_index pool = omega arith in
    sym (pool_from-index p) ∙ ap pool_from same ∙ pool_from-index pool

pub cached-in_order : (l : LayoutParts) (s : Memory) (cpu : ℕ) (pool : Pool) (frames : List ℕ) → IsInOrder l s
    → cpu < l.cpus
    → ((frame : ℕ) → is_on frame frames ≡ true
    → pool_at l s.free.areas.kinds s.blocks.rows (pageblock_of l frame) ≡ Some pool)
    → IsInOrder l (with_free s (with_cached_list s.free cpu pool frames))
cached-in_order l s cpu pool frames h low agrees =
    let below : pool_index pool < 3 = pool_index-lt pool in
    let short : 3 * cpu + pool_index pool < length s.free.cached = omega (arith, h.shape.cached) in
    record {
      shape =
          reshaped l s _ _ _ h.shape h.shape.lists h.shape.kinds
          (length-set s.free.cached (3 * cpu + pool_index pool) frames ∙ h.shape.cached) h.shape.kernel
          h.shape.rows;
      blocks = h.blocks;
      joined = h.joined;
      cached = λ other p frame. elim (cases_eq (3 * other + pool_index p) (3 * cpu + pool_index pool)) [
        | inl same ↦ λ on.
            let is : get_or (set s.free.cached (3 * cpu + pool_index pool) frames) (3 * other + pool_index p)
            [] ≡ frames =
            rw same (get_or-set_same s.free.cached (3 * cpu + pool_index pool) frames [] short) in
            agrees frame (rw (← is) on) ∙ ap (λ (q : Pool). Some q) (sym (same_pool cpu other pool p same))
        | inr ne ↦ λ on. h.cached other p frame
            (subst (λ (xs : List ℕ). is_on frame xs ≡ true) (get_or-set_other s.free.cached
            (3 * cpu + pool_index pool) (3 * other + pool_index p) frames [] ne) on)
      ];
      kernel = h.kernel;
      mobility = h.mobility;
      isolated = h.isolated;
      rows = h.rows;
      words = h.words;
    }

pub pool_zone : (zone : Option Zone) (mobility : Mobility) (pool : Pool)
    → option_map (λ z. pool_of z mobility) zone ≡ Some pool → zone ≡ Some (zone_of_pool pool)
pool_zone (Some NormalZone) Unmovable NuPool e = refl
pool_zone (Some NormalZone) Movable NmPool e = refl
pool_zone (Some MovableZone) mobility MmPool e = refl
pool_zone _ _ _ e = cc

-- ---- Drain

pub drain_pool-placed : (l : LayoutParts) (s : Memory) (cpu : ℕ) (pool : Pool) → cpu < l.cpus
    → IsWellPlaced l s → IsWellPlaced l (with_free s (drain_pool l cpu s.free pool))
drain_pool-placed l s cpu pool low p =
    let frames : List ℕ = cached_list s.free cpu pool in
    let below : pool_index pool < 3 = pool_index-lt pool in
    let short : 3 * cpu + pool_index pool < length s.free.cached = omega (arith, p.in_order.shape.cached) in
    let left : (frame : ℕ)
    → cached_places (with_cached_list s.free cpu pool []) frame + times frame frames
    ≡ cached_places s.free frame =
    λ frame. omega (
      arith,
      sum_by-set (λ (xs : List ℕ). times frame xs) s.free.cached (3 * cpu + pool_index pool) [] [] short,
    ) in
    let given =
    give_all-ordered l (class_at l s.free.areas.kinds s.blocks.rows) s.free.areas (zone_of_pool pool) frames
    (areas_of l s p) (λ frame on. rw (pool_zone _ _ pool (p.in_order.cached cpu pool frame on)))
    (λ frame. omega (arith, left frame, p.once frame)) in
    record {
      in_order =
          cached-in_order l _ cpu pool [] (areas-in_order l s _ p.in_order given.ordered
          given.kinds) low (λ frame on. cc);
      once = λ frame. omega (arith, p.once frame, given.places frame, left frame);
    }

pub drain_lists-placed : (l : LayoutParts) (s : Memory) (cpu : ℕ) → cpu < l.cpus → IsWellPlaced l s
    → IsWellPlaced l (with_free s (drain_lists l s.free cpu))
unfolding drain_lists
drain_lists-placed l s cpu low p =
    let a = drain_pool-placed l s cpu NuPool low p in
    drain_pool-placed l _ cpu MmPool low (drain_pool-placed l _ cpu NmPool low a)
