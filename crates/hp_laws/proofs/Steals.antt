-- Taking and stealing blocks from the areas of a state, and the kernel's larger blocks.
use Rattle.std.proofs.Common.{◌≡◌, ◌≢◌, ℕ, suc, ◌+◌, ◌-◌, ◌/◌, ◌%◌, ◌^◌, ◌<◌, ◌≤◌, List, [], ◌∷◌, length, get_or, set, Bool, true, false, cond, Option, Some, None, refl, sym, ◌∙◌, ap, subst, arith, inl, inr, IfSome, length-set, eq-eqb, eqb-true, ◌==◌}
use Rattle.std.specs.Option.{option_map, option_map_or, option_or}
use Rattle.std.proofs.lemmas.Bool.{cases_eq, or_left}
use Rattle.std.proofs.lemmas.List.{get_or-set_other, get_or-set_same}
use Rattle.std.proofs.lemmas.Nat.{pow_pos}
use Rattle.hp_units.specs.declared.rows.Class.{Class}
use Rattle.hp_units.specs.declared.rows.Class.TheVariants.{Nu}
use Rattle.hp_units.specs.declared.rows.Kind.{Kind}
use Rattle.hp_units.specs.declared.rows.Zone.{Zone}
use Rattle.hp_units.specs.declared.rows.Zone.TheVariants.{Normal as NormalZone, Movable as MovableZone}
use Rattle.hp_units.specs.declared.rows.Mobility.{Mobility}
use Rattle.hp_units.specs.declared.rows.Mobility.TheVariants.{Unmovable, Movable}
use Rattle.hp_units.specs.LayoutParts.{LayoutParts, IsLayout}
use Rattle.hp_units.specs.Arithmetic.{pageblock_of, frame_count}
use Rattle.hp_units.specs.Memory.{FreeAreas, Memory, free_list, with_free_list, usable_class, isolated_class, plain_kind, kernel_order, with_kernel_order}
use Rattle.hp_units.specs.FreeAreas.{Taken, is_on, with_halves, take_first, take_block, steal_front, steal_block, with_mobility, other_mobility}
use Rattle.hp_units.specs.Rows.{with_areas}
use Rattle.hp_units.specs.Step.{kernel_takes, with_free, done}
use Rattle.hp_units.specs.ProcessorLists.{handed_from}
use Rattle.hp_units.specs.declared.replies.Reply.TheVariants.{Frame as GivesFrame}
use Rattle.hp_units.specs.Placement.{free_places, cached_places, kernel_places, IsBlockOf, IsInOrder, IsWellPlaced, class_at, row_at, kind_at, covered}
use Rattle.hp_units.proofs.Places.{list_places-cons, HasOrder, with_free_list-places, with_halves-places, greatest_order-among}
use Rattle.hp_units.proofs.Geometry.{multiple, below_aligned, pageblock_in}
use Rattle.hp_units.proofs.ListEdits.{covered-self}
use Rattle.hp_units.proofs.ListParts.{IsPart, tail-part}
use Rattle.hp_units.proofs.Sizes.{halves-kinds}
use Rattle.hp_laws.proofs.Ordered.{AreOrdered}
use Rattle.hp_laws.proofs.Areas.{has_order, part-ordered, halves-ordered, other-ordered}
use Rattle.hp_laws.proofs.Takes.{TakesOrdered, take_first-ordered, take_block-ordered, and_then-ordered}
use Rattle.hp_laws.proofs.States.{areas_of, areas-in_order, kernel-in_order, in_layout, kernel_free, reshaped}
use Rattle.hp_units.proofs.KernelBlockFrames.{kernel-places}
use Rattle.hp_laws.proofs.Rows.{on_cached}
use Rattle.hp_laws.proofs.Onlines.{inside}
use Rattle.hp_laws.proofs.Options.{some_weaker}

-- what was taken from a state, in a zone
pub record TakesPlaced (l : LayoutParts) (s : Memory) (zone : Zone) (order : ℕ) (taken : Taken) : Type 0 where
  pub in_order : IsInOrder l (with_areas s taken.areas)
  pub places : (frame : ℕ)
      → free_places taken.areas frame + covered frame order taken.frame ≡ free_places s.free.areas frame
  pub aligned : taken.frame % 2 ^ order ≡ 0
  pub zone_is : (row_at l s.blocks.rows (pageblock_of l taken.frame)).zone ≡ Some zone
  pub shown : (kind_at s.free.areas.kinds (pageblock_of l taken.frame)).isolated ≡ false

pub record IsOpenNormal (zone : Option Zone) (isolated : Bool) : Type 0 where
  pub zone_is : zone ≡ Some NormalZone
  pub shown : isolated ≡ false

open_normal : (zone : Option Zone) (isolated : Bool) (mobility m : Mobility)
    → option_map (λ z. cond isolated (isolated_class z) (usable_class z mobility)) zone
    ≡ Some (usable_class NormalZone m)
    → IsOpenNormal zone isolated
open_normal None isolated mobility m e = cc
open_normal (Some NormalZone) false mobility m e = record { zone_is = refl; shown = refl }
open_normal (Some NormalZone) true mobility Unmovable e = cc
open_normal (Some NormalZone) true mobility Movable e = cc
open_normal (Some MovableZone) true mobility Unmovable e = cc
open_normal (Some MovableZone) true mobility Movable e = cc
open_normal (Some MovableZone) false mobility Unmovable e = cc
open_normal (Some MovableZone) false mobility Movable e = cc

-- taken with the kinds as they were
pub taken-placed : (l : LayoutParts) (s : Memory) (m : Mobility) (order : ℕ) (taken : Taken)
    → IsWellPlaced l s
    → TakesOrdered l (class_at l s.free.areas.kinds s.blocks.rows) s.free.areas (usable_class NormalZone m)
    order taken
    → TakesPlaced l s NormalZone order taken
taken-placed l s m order taken p t =
    let kind : Kind = kind_at s.free.areas.kinds (pageblock_of l taken.frame) in
    record {
      in_order = areas-in_order l s _ p.in_order t.ordered t.kinds;
      places = t.places;
      aligned = t.block.aligned;
      zone_is =
          (open_normal _ _ _ m
          t.block.class_agrees).zone_is;
      shown =
          (open_normal _ _ _ m
          t.block.class_agrees).shown;
    }

in_pageblock : (l : LayoutParts) (frame first : ℕ) → first % 2 ^ l.order ≡ 0
    → pageblock_of l frame ≡ pageblock_of l first → covered frame l.order first ≡ 1
in_pageblock l frame first aligned e =
    rw (multiple first _ aligned) (inside frame (2 ^ l.order) (first / 2 ^ l.order) (pow_pos l.order) e)

-- a whole pageblock is stolen: what is written of its kind is written at once
steal_whole : (l : LayoutParts) (s : Memory) (m from : Mobility) (wanted first : ℕ) (frames : List ℕ)
    → IsLayout l → IsWellPlaced l s → wanted ≤ l.order
    → free_list s.free.areas (usable_class NormalZone from) l.order ≡ first ∷ frames
    → TakesPlaced l s NormalZone wanted (with_mobility l m (record {
      areas =
          with_halves (with_free_list s.free.areas (usable_class NormalZone from) l.order frames)
          (usable_class NormalZone m) first wanted (l.order - wanted);
      frame = first;
    }))
steal_whole l s m from wanted first frames layout p w e =
    let h : IsInOrder l s = p.in_order in
    let a : FreeAreas = s.free.areas in
    let class : Class = usable_class NormalZone from in
    let to : Class = usable_class NormalZone m in
    let left : FreeAreas = with_free_list a class l.order frames in
    let halves : FreeAreas = with_halves left to first wanted (l.order - wanted) in
    let at : ℕ = pageblock_of l first in
    let kind : Kind = record (kind_at a.kinds at) { mobility = m } in
    let same : halves.kinds ≡ a.kinds = halves-kinds left to first wanted (l.order - wanted) in
    let ordered : AreOrdered l (class_at l a.kinds s.blocks.rows) a = areas_of l s p in
    let has : HasOrder a l.order = has_order l _ a _ ordered (omega arith) in
    let on : is_on first (free_list a class l.order) ≡ true =
    rw e (or_left (first == first) (is_on first frames) (eq-eqb first first refl)) in
    let block : IsBlockOf l (class_at l a.kinds s.blocks.rows) class l.order first =
    h.blocks class l.order first on in
    let normal =
    open_normal (row_at l s.blocks.rows at).zone (kind_at a.kinds at).isolated (kind_at a.kinds at).mobility
    from block.class_agrees in
    let short : at < length a.kinds =
    omega (
      arith,
      h.shape.kinds,
      pageblock_in l first (in_layout l s first _ layout h.shape.rows normal.zone_is),
    ) in
    let part = subst (λ (xs : List ℕ). IsPart l.order frames xs) (sym e) (tail-part _ first frames) in
    let without : (frame : ℕ) → free_places left frame + covered frame l.order first ≡ free_places a frame =
    λ frame. omega (
      arith,
      rw e at (with_free_list-places a class _ frame frames has),
      list_places-cons frame l.order first frames,
    ) in
    let now : get_or (set a.kinds at kind) at plain_kind ≡ kind =
    get_or-set_same a.kinds at kind plain_kind short in
    let other : (frame : ℕ) → pageblock_of l frame ≢ at
    → get_or (set a.kinds at kind) (pageblock_of l frame) plain_kind
    ≡ get_or a.kinds (pageblock_of l frame) plain_kind =
    λ frame ne. get_or-set_other a.kinds at (pageblock_of l frame) kind plain_kind ne in
    let cleared : AreOrdered l (class_at l (set a.kinds at kind) s.blocks.rows) left =
    other-ordered l _ _ left (λ frame some. rw (other frame (λ here. absurd
    (omega (arith, in_pageblock l frame first block.aligned here, without frame, ordered.few frame)))))
    (part-ordered l _ a class _ frames (omega arith) part ordered) in
    let agrees : class_at l (set a.kinds at kind) s.blocks.rows at ≡ Some to =
    rw (now, normal.zone_is, normal.shown) in
    let sum : wanted + (l.order - wanted) ≡ l.order = omega arith in
    let new : IsBlockOf l (class_at l (set a.kinds at kind) s.blocks.rows) to l.order first =
    record { aligned = block.aligned; class_agrees = agrees } in
    let put : AreOrdered l (class_at l (set a.kinds at kind) s.blocks.rows) halves =
    halves-ordered l (class_at l (set a.kinds at kind) s.blocks.rows) left to first wanted
    (l.order - wanted) (omega arith)
    (rw sum new) (rw sum (λ frame. omega (arith, without frame, ordered.few frame))) cleared in
    let stolen : IsInOrder l (with_areas s (record halves { kinds = set a.kinds at kind })) = record {
      shape =
          reshaped l s _ _ _ h.shape put.lists (length-set a.kinds at kind ∙ h.shape.kinds) h.shape.cached
          h.shape.kernel h.shape.rows;
      blocks = put.blocks;
      joined = put.joined;
      cached = λ cpu pool frame there.
          let some : 1 ≤ cached_places s.free frame = on_cached s.free cpu pool frame there in
          rw (other frame (λ here. absurd
          (omega (arith, in_pageblock l frame first block.aligned here, without frame, p.once frame))))
          (h.cached cpu pool frame there);
      kernel = h.kernel;
      mobility = λ pageblock unmovable. elim (cases_eq pageblock at) [
        | inl here ↦ rw here normal.zone_is
        | inr ne ↦
            h.mobility pageblock (rw (← get_or-set_other a.kinds at pageblock kind plain_kind ne) unmovable)
      ];
      isolated = λ pageblock. elim (cases_eq pageblock at) [
        | inl here ↦ rw here (ap (λ (k : Kind). k.isolated) now ∙ h.isolated at)
        | inr ne ↦ rw (get_or-set_other a.kinds at pageblock kind plain_kind ne) (h.isolated pageblock)
      ];
      rows = h.rows;
      words = h.words;
    } in
    record {
      in_order = rw same stolen;
      places =
          λ frame. omega (
            arith,
            without frame,
            rw sum at
                (with_halves-places left to first wanted (l.order - wanted) frame
                (omega (arith, cleared.lists))),
          );
      aligned = below_aligned wanted (l.order - wanted) first (rw sum block.aligned);
      zone_is = normal.zone_is;
      shown = normal.shown;
    }

steal_top : (l : LayoutParts) (s : Memory) (m from : Mobility) (wanted : ℕ) (frames : List ℕ) → IsLayout l
    → IsWellPlaced l s → wanted ≤ l.order
    → free_list s.free.areas (usable_class NormalZone from) l.order ≡ frames
    → IfSome (option_map (with_mobility l m) (take_first s.free.areas (usable_class NormalZone from)
    (usable_class NormalZone m) l.order wanted frames)) (TakesPlaced l s NormalZone wanted)
steal_top l s m from wanted [] layout p w e = tt
steal_top l s m from wanted (first ∷ frames) layout p w e =
    steal_whole l s m from wanted first frames layout p w e

cond_some : {X : Type 0} (P : X → Type 0) (b : Bool) (x y : Option X) → (b ≡ true → IfSome x P)
    → (b ≡ false → IfSome y P) → IfSome (cond b x y) P
cond_some P true x y h k = h refl
cond_some P false x y h k = k refl

steal_front-placed : (l : LayoutParts) (s : Memory) (m : Mobility) (order wanted : ℕ) → IsLayout l
    → IsWellPlaced l s → order ≤ l.order → wanted ≤ order
    → IfSome (steal_front l s.free.areas m order wanted) (TakesPlaced l s NormalZone wanted)
steal_front-placed l s m order wanted layout p low w =
    let from : Class = usable_class NormalZone (other_mobility m) in
    cond_some _ _ _ _ (λ e. rw (eqb-true order l.order e) (steal_top l s m _ wanted
    _ layout p (omega arith) refl)) (λ e. some_weaker _ _ (λ taken t. taken-placed l s _ wanted taken p t) _
    (take_first-ordered l _ _ from order wanted _ refl low w (areas_of l s p)))

pub steal_block-placed : (l : LayoutParts) (s : Memory) (m : Mobility) (wanted : ℕ) → IsLayout l
    → IsWellPlaced l s
    → IfSome (steal_block l s.free.areas m wanted) (TakesPlaced l s NormalZone wanted)
unfolding steal_block
steal_block-placed l s m wanted layout p =
    and_then-ordered _ wanted _ (λ order. steal_front l s.free.areas m order wanted) _
    (greatest_order-among s.free.areas (usable_class NormalZone (other_mobility m)) wanted
    (l.order + 1 - wanted))
    (λ order among.
    steal_front-placed l s m order wanted layout p (omega (arith, among.low, among.high)) among.low)

-- ---- the kernel's block

pub kernel_taken-placed : (l : LayoutParts) (s : Memory) (order : ℕ) (taken : Taken) → IsLayout l
    → IsWellPlaced l s → order ≤ l.order → TakesPlaced l s NormalZone order taken
    → IsWellPlaced l (with_kernel_order (with_areas s taken.areas) taken.frame (Some order))
kernel_taken-placed l s order taken layout p low t =
    let within : taken.frame < frame_count l = in_layout l s _ _ layout p.in_order.shape.rows t.zone_is in
    let short : taken.frame < length s.kernel = omega (arith, p.in_order.shape.kernel) in
    let gone : kernel_places s taken.frame ≡ 0 =
    omega (arith, p.once taken.frame, t.places taken.frame, covered-self order taken.frame) in
    let none : kernel_order s taken.frame ≡ None = kernel_free l s _ _ refl short gone in
    record {
      in_order =
          kernel-in_order l _ _ _ t.in_order within
          (record { in_order = low; aligned = t.aligned; normal = t.zone_is });
      once =
          λ frame. omega (
            arith,
            p.once frame,
            t.places frame,
            rw none at (kernel-places s taken.frame frame (Some order) short),
          );
    }

pub or_some : {X : Type 0} (P : X → Type 0) (x y : Option X) → IfSome x P → IfSome y P
    → IfSome (option_or x y) P
or_some P None y h k = k
or_some P (Some x) y h k = h

-- a block for the kernel of an order above zero
pub kernel_large-placed : (l : LayoutParts) (s : Memory) (below : ℕ) → IsLayout l → IsWellPlaced l s
    → IfSome (option_or (take_block l s.free.areas Nu (suc below))
    (steal_block l s.free.areas Unmovable (suc below))) (TakesPlaced l s NormalZone (suc below))
kernel_large-placed l s below layout p =
    or_some (TakesPlaced l s NormalZone (suc below)) (take_block l s.free.areas Nu (suc below))
    (steal_block l s.free.areas Unmovable (suc below))
    (some_weaker (TakesOrdered l (class_at l s.free.areas.kinds s.blocks.rows) s.free.areas Nu (suc below))
    (TakesPlaced l s NormalZone (suc below))
    (λ t h. taken-placed l s Unmovable (suc below) t p h) (take_block l s.free.areas Nu (suc below))
    (take_block-ordered l (class_at l s.free.areas.kinds s.blocks.rows) s.free.areas Nu (suc below)
    (areas_of l s p))) (steal_block-placed l s _ _ layout p)

pub kernel_takes-placed : (l : LayoutParts) (s : Memory) (cpu below : ℕ) → IsLayout l → IsWellPlaced l s
    → suc below ≤ l.order
    → IsWellPlaced l (kernel_takes l s cpu (suc below)).memory
unfolding kernel_takes
kernel_takes-placed l s cpu below layout p low = taken _ (kernel_large-placed l s below layout p)
  where
    taken : (o : Option Taken) → IfSome o (TakesPlaced l s NormalZone (suc below))
        → IsWellPlaced l
        (option_map_or (λ handed. record {
          memory = with_kernel_order (with_free s handed.free) handed.frame
              (Some (suc below));
          reply = GivesFrame handed.frame;
        }) (handed_from s.free o) (done s)).memory
    taken None h = p
    taken (Some t) h = kernel_taken-placed l s _ t layout p low h
