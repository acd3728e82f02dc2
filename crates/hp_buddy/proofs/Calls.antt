-- What calls make of the small changes: their deltas joined, and the areas that they leave.
use Rattle.std.proofs.Common.{◌≡◌, ℕ, suc, ◌+◌, ◌-◌, ◌*◌, ◌^◌, ◌<◌, ◌≤◌, List, [], ◌∷◌, ◌++◌, length, true, Option, Some, None, IfSome, MatchOption, refl, sym, ◌∙◌, ap, subst, arith}
use Rattle.std.proofs.lemmas.Nat.{pow_pos, pow-add}
use Rattle.std.proofs.Math.Nat.{mul-le-mul_left}
use Rattle.std.proofs.lemmas.List.{length-append}
use Rattle.hp_units.specs.declared.rows.Class.{Class}
use Rattle.hp_units.specs.declared.rows.Kind.{Kind}
use Rattle.hp_units.specs.declared.rows.Mobility.{Mobility}
use Rattle.hp_units.specs.declared.rows.Zone.{Zone}
use Rattle.hp_units.specs.declared.rows.Zone.TheVariants.{Normal as NormalZone}
use Rattle.hp_units.specs.LayoutParts.{LayoutParts, IsLayout}
use Rattle.hp_units.specs.Numbers.{ancestor}
use Rattle.hp_units.specs.Arithmetic.{frame_count, buddy}
use Rattle.hp_units.specs.Memory.{FreeAreas, free_list, with_free_list, class_index, usable_class}
use Rattle.hp_units.specs.FreeAreas.{Taken, is_on, with_front, with_halves, without_free, without_buddies, least_order, take_front, take_block, greatest_order, steal_front, steal_block, other_mobility, join_order, give_block, class_of}
use Rattle.hp_units.specs.Placement.{free_places}
use Rattle.hp_units.proofs.Places.{IsOrderAmong, least_order-among, greatest_order-among}
use Rattle.hp_units.proofs.Joins.{JoinsTo, join_order-joins, without_buddies-other}
use Rattle.hp_tape.specs.Deltas.{FitsAreas, IsOfAreas, areas_undo}
use Rattle.hp_tape.specs.Tapes.{TapeValue, HasRoom, NotesAreas}
use Rattle.hp_tape.proofs.Leads.{notes-append, notes-more}
use Rattle.hp_buddy.specs.LinkedLists.{LinkedLists, list_at, first}
use Rattle.hp_buddy.specs.Buddy.{BuddyValue, AreApart, MayBeGiven, HasBlockMore}
use Rattle.hp_buddy.proofs.Linked.{without-front}
use Rattle.hp_buddy.proofs.Apart.{has_order, on_frame}
use Rattle.hp_buddy.proofs.Splits.{halves-left, split, take_first-takes, front_on, tail-left, IsLeft, Takes}
use Rattle.hp_buddy.proofs.Gives.{joins_up, buddy_within}
use Rattle.hp_buddy.proofs.Searches.{with_halves-more, without_buddies-more}
use Rattle.hp_buddy.proofs.Notes.{Seen, distinct}

-- ---- the notes of two calls

-- one call, and then another
pub notes-then : (l m : LayoutParts) (most more total : ℕ) (was mid now : TapeValue)
    (before between after : FreeAreas)
    → m ≡ l → most + more ≤ total
    → NotesAreas l most was mid between before → NotesAreas m more mid now after between
    → NotesAreas l total was now after before
notes-then l m most more total was mid now before between after same le a b =
    notes-more IsOfAreas FitsAreas areas_undo l (most + more) total was now after before le
    (notes-append IsOfAreas FitsAreas areas_undo l most more was mid now after between before a
    (subst (λ (k : LayoutParts). NotesAreas k more mid now after between) same b))

-- what room a call leaves
pub room_left : (l : LayoutParts) (most more : ℕ) (was now : TapeValue) (before after : FreeAreas)
    → NotesAreas l most was now after before → HasRoom was (most + more) → HasRoom now more
room_left l most more was now before after n room =
    let size : length now.deltas ≡ length (was.deltas ++ n.deltas) = rw n.tape in
    let same : now.room ≡ was.room = ap (λ (t : TapeValue). t.room) n.tape in
    omega (arith, n.few, length-append was.deltas n.deltas)

-- ---- numbers

-- a block of a lower order is not greater
smaller : (order top : ℕ) → order ≤ top → 2 ^ order ≤ 2 ^ top
smaller order top low =
    let sum : top ≡ order + (top - order) = omega arith in
    let some : 1 ≤ 2 ^ (top - order) = pow_pos (top - order) in
    let power : 2 ^ top ≡ 2 ^ order * 2 ^ (top - order) =
    ap (λ (n : ℕ). 2 ^ n) sum ∙ pow-add 2 order (top - order) in
    omega (arith, mul-le-mul_left (2 ^ order) some)

-- the upper half of a block starts at a number of 32 bits
pub half_fits : (l : LayoutParts) (a : FreeAreas) (order frame half : ℕ) → IsLayout l
    → MayBeGiven l a order frame → half < order → frame + 2 ^ half < 2 ^ 32
half_fits l a order frame half layout block below =
    let count : frame_count l ≤ 2 ^ 20 = layout.frames in
    omega (arith, block.within, smaller half order (omega arith))

-- ---- a block that is split

-- the upper half of what is left starts at a frame in no free block
pub record IsUpper (l : LayoutParts) (now : FreeAreas) (f : ℕ) : Type 0 where
  pub inside : f < frame_count l
  pub unfree : free_places now f ≡ 0

-- the upper half of a block that is split down so far
pub upper : (l : LayoutParts) (a now : FreeAreas) (class : Class) (frame half order k f : ℕ) → half < order
    → MayBeGiven l a order frame → AreApart l a → k ≡ half + 1
    → now ≡ with_halves a class frame k (order - k) → f ≡ frame + 2 ^ half → IsUpper l now f
upper l a now class frame half order k f below block h next is at =
    let sum : suc half + (order - suc half) ≡ order = omega arith in
    let up : k ≡ suc half = omega arith in
    let left : IsLeft l (with_halves a class frame (suc half) (order - suc half)) (suc half) frame =
    halves-left l a class frame (suc half) (order - suc half)
    (subst (λ (n : ℕ). MayBeGiven l a n frame) (sym sum) block) h in
    let both =
    split l (with_halves a class frame (suc half) (order - suc half)) class half frame left.rest
    left.apart in
    let some : 0 < 2 ^ half = pow_pos half in
    let areas : now ≡ with_halves a class frame (suc half) (order - suc half) = rw (is, up) in
    record {
      inside = omega (arith, both.upper.within);
      unfree = rw areas (both.upper.unfree f (omega arith) (omega arith));
    }

-- one more upper half is free
pub halves_next : (a now new : FreeAreas) (class : Class) (frame half order k f : ℕ) → half < order
    → k ≡ half + 1 → now ≡ with_halves a class frame k (order - k) → f ≡ frame + 2 ^ half
    → new ≡ with_front now class half f → new ≡ with_halves a class frame half (order - half)
halves_next a now new class frame half order k f below next is at pushed =
    pushed ∙ ap (λ (n : ℕ). with_front now class half n) at
    ∙ ap (λ (b : FreeAreas). with_front b class half (frame + 2 ^ half))
    (is ∙ ap (λ (n : ℕ). with_halves a class frame n (order - n)) next)
    ∙ sym (with_halves-more a class frame half order below)

-- ---- the front block of a list

-- a list with a frame in front
pub record IsFront (f : ℕ) (xs : List ℕ) : Type 0 where
  pub rest : List ℕ
  pub is : xs ≡ f ∷ rest

-- a list's front is its first frame
front_of : (f : ℕ) (xs : List ℕ) → Some f ≡ first xs → IsFront f xs
front_of f [] e = cc
front_of f (x ∷ xs) e = let same : x ≡ f = cc in record { rest = xs; is = ap (λ (y : ℕ). y ∷ xs) same }

-- the same, by the front that the links show
pub seen-front_is : (v : BuddyValue) (l : LayoutParts) (links : LinkedLists) (kinds : List Kind)
    (class : Class) (order n f : ℕ)
    → Seen v l links kinds
    → n ≡ 5 * order + class_index class → Some f ≡ first (list_at links n)
    → IsFront f (free_list v.areas class order)
seen-front_is v l links kinds class order n f s number e =
    rw (← s.is, ← number) (front_of f (list_at links n) e)

-- the front block left its list
pub front_left : (l : LayoutParts) (a mid : FreeAreas) (class : Class) (order f : ℕ) → AreApart l a
    → order ≤ l.order → (front : IsFront f (free_list a class order))
    → mid ≡ without_free a class order f → mid ≡ with_free_list a class order front.rest
front_left l a mid class order f h low front is =
    let apart = rw front.is at (distinct a class order (has_order l a order h low) h.once) in
    rw (is, front.is, without-front f front.rest apart.0)

-- and then it is in no free block
pub front_free : (l : LayoutParts) (a mid : FreeAreas) (class : Class) (order f : ℕ) → AreApart l a
    → order ≤ l.order → IsFront f (free_list a class order)
    → mid ≡ without_free a class order f → IsLeft l mid order f
front_free l a mid class order f h low front is =
    subst (λ (b : FreeAreas). IsLeft l b order f) (sym (front_left l a mid class order f h low front is))
    (tail-left l a class order f front.rest front.is low h)

-- the front block starts at a frame of the layout
pub front_frame : (l : LayoutParts) (a : FreeAreas) (class : Class) (order f : ℕ) → AreApart l a
    → IsFront f (free_list a class order) → f < frame_count l
front_frame l a class order f h front =
    on_frame l a class order f h.areas (front_on f front.rest (free_list a class order) front.is)

-- the front block was taken
pub front_taken : (l : LayoutParts) (a mid new : FreeAreas) (class rest : Class) (order wanted f : ℕ)
    → AreApart l a → order ≤ l.order → IsFront f (free_list a class order)
    → mid ≡ without_free a class order f → new ≡ with_halves mid rest f wanted (order - wanted)
    → take_front a class rest order wanted ≡ Some (record { areas = new; frame = f })
front_taken l a mid new class rest order wanted f h low front is split_is =
    rw (front.is, ← front_left l a mid class order f h low front is, ← split_is)

-- ---- what was taken or stolen

-- the areas lie apart, and the block that was taken is in no free block
pub record IsOutcome (v new : BuddyValue) (wanted : ℕ) (o : Option ℕ) : Type 0 where
  pub apart : AreApart new.layout new.areas
  pub block : IfSome o (MayBeGiven new.layout new.areas wanted)
  pub places : IfSome o (HasBlockMore v.areas new.areas wanted)

-- the outcome, by what the definition took
pub outcome : (v new : BuddyValue) (wanted : ℕ) (taken : Option Taken) (o : Option ℕ) (was now : TapeValue)
    → AreApart v.layout v.areas → new.layout ≡ v.layout
    → IfSome taken (Takes v.layout v.areas wanted)
    → MatchOption o (taken ≡ None) (λ f. taken ≡ Some (record { areas = new.areas; frame = f }))
    → MatchOption o ((new ≡ v) × (now ≡ was)) (λ _. Unit {0}) → IsOutcome v new wanted o
outcome v new wanted taken None was now h same takes is none =
    record {
      apart = subst (λ (w : BuddyValue). AreApart w.layout w.areas) (sym none.0) h;
      block = tt;
      places = tt;
    }
outcome v new wanted taken (Some f) was now h same takes is none =
    let t : Takes v.layout v.areas wanted (record { areas = new.areas; frame = f }) =
    subst (λ (x : Option Taken). IfSome x (Takes v.layout v.areas wanted)) is takes in
    record {
      apart = subst (λ (l : LayoutParts). AreApart l new.areas) (sym same) t.apart;
      block = subst (λ (l : LayoutParts). MayBeGiven l new.areas wanted f) (sym same) t.block;
      places = t.places;
    }

-- the order that was found
pub found_least : (a : FreeAreas) (class : Class) (wanted count found : ℕ)
    → Some found ≡ least_order a class wanted count → IsOrderAmong wanted count found
found_least a class wanted count found e =
    subst (λ (o : Option ℕ). IfSome o (IsOrderAmong wanted count)) (sym e)
    (least_order-among a class wanted count)

-- the block taken is the front one of the order found
pub take_block-found : (l : LayoutParts) (a : FreeAreas) (class : Class) (wanted found : ℕ)
    → Some found ≡ least_order a class wanted (l.order + 1 - wanted)
    → take_block l a class wanted ≡ take_front a class class found wanted
unfolding take_block
take_block-found l a class wanted found e = rw (← e)

-- if no order has a block, none is taken or stolen
pub take_block-none : (l : LayoutParts) (a : FreeAreas) (class : Class) (wanted : ℕ)
    → None ≡ least_order a class wanted (l.order + 1 - wanted) → take_block l a class wanted ≡ None
unfolding take_block
take_block-none l a class wanted e = rw (← e)

-- ---- buddies that leave

-- a buddy that is a frame and free
pub record IsBuddyFree (l : LayoutParts) (now : FreeAreas) (class : Class) (order other : ℕ) : Type 0 where
  pub inside : other < frame_count l
  pub free : is_on other (free_list now class order) ≡ true

-- the buddy of an order is a frame, and free when its turn comes
pub buddy_free : (l : LayoutParts) (a now : FreeAreas) (class : Class) (frame first order half other : ℕ)
    → first ≤ order → order < l.order → frame < frame_count l
    → half ≡ ancestor frame order → other ≡ buddy half order
    → now ≡ without_buddies a class frame first (order - first)
    → is_on (buddy (ancestor frame order) order) (free_list a class order) ≡ true
    → IsBuddyFree l now class order other
buddy_free l a now class frame first order half other low below inside half_is other_is is on =
    let place : other ≡ buddy (ancestor frame order) order = rw (other_is, half_is) in
    record {
      inside = subst (λ (n : ℕ). n < frame_count l) (sym place) (buddy_within l frame order inside below);
      free = rw (is, without_buddies-other a class frame first (order - first) order (omega arith), place) on;
    }

-- one more buddy leaves
pub buddies_next : (a now new : FreeAreas) (class : Class) (frame first order half other : ℕ) → first ≤ order
    → half ≡ ancestor frame order → other ≡ buddy half order
    → now ≡ without_buddies a class frame first (order - first) → new ≡ without_free now class order other
    → new ≡ without_buddies a class frame first (order + 1 - first)
buddies_next a now new class frame first order half other low half_is other_is is left =
    rw (left, other_is, half_is, is, ← without_buddies-more a class frame first order low)

-- ---- blocks that were taken off a front

-- what was taken is a block that was free
pub front_takes : (l : LayoutParts) (a : FreeAreas) (class rest : Class) (order wanted : ℕ) (taken : Taken)
    → AreApart l a → order ≤ l.order → wanted ≤ order
    → take_front a class rest order wanted ≡ Some taken → Takes l a wanted taken
front_takes l a class rest order wanted taken h low w e =
    subst (λ (o : Option Taken). IfSome o (Takes l a wanted)) e
    (take_first-takes l a class rest order wanted (free_list a class order) refl low w h)

-- and it starts at a frame of the layout
pub taken_frame : (l m : LayoutParts) (a : FreeAreas) (class rest : Class) (order wanted : ℕ) (taken : Taken)
    → AreApart l a → order ≤ l.order → wanted ≤ order → m ≡ l
    → take_front a class rest order wanted ≡ Some taken → taken.frame < frame_count m
taken_frame l m a class rest order wanted taken h low w same e =
    let some : 0 < 2 ^ wanted = pow_pos wanted in
    rw same (omega (arith, (front_takes l a class rest order wanted taken h low w e).block.within))

-- ---- a block comes back

-- the order that it joins up to
pub joins_to : (l : LayoutParts) (a : FreeAreas) (class : Class) (frame order joined : ℕ)
    → joined ≡ join_order a class frame order (l.order - order)
    → JoinsTo a class frame order (l.order - order) joined
joins_to l a class frame order joined e = rw e (join_order-joins a class frame order (l.order - order))

-- the block that it joins to, when the buddies have left
pub joined_left : (l : LayoutParts) (a mid : FreeAreas) (class : Class) (frame order joined : ℕ)
    → MayBeGiven l a order frame → AreApart l a
    → joined ≡ join_order a class frame order (l.order - order)
    → mid ≡ without_buddies a class frame order (joined - order) → IsLeft l mid joined (ancestor frame joined)
joined_left l a mid class frame order joined block h e is =
    let j = joins_up l a class frame order joined block h (joins_to l a class frame order joined e) in
    rw is (record { apart = j.apart; rest = j.block })

-- the block was given
pub block_given : (l : LayoutParts) (a mid new : FreeAreas) (zone : Zone) (class : Class)
    (frame order joined top : ℕ)
    → class ≡ class_of l a zone frame
    → joined ≡ join_order a class frame order (l.order - order)
    → mid ≡ without_buddies a class frame order (joined - order) → top ≡ ancestor frame joined
    → new ≡ with_front mid class joined top → new ≡ give_block l a zone frame order
unfolding give_block
block_given l a mid new zone class frame order joined top class_is joined_is is top_is pushed =
    rw (pushed, top_is, is, joined_is, class_is)

-- a buddy is a frame
pub frame_is_buddy : (l : LayoutParts) (frame order half other : ℕ) → frame < frame_count l → order < l.order
    → half ≡ ancestor frame order → other ≡ buddy half order → other < frame_count l
frame_is_buddy l frame order half other inside below half_is other_is =
    rw (other_is, half_is) (buddy_within l frame order inside below)

-- ---- the order that is found

-- if two definitions of the block taken are equal, what holds for one holds for the other
pub as_taken : (o : Option ℕ) (a : FreeAreas) (x y : Option Taken) → x ≡ y
    → MatchOption o (y ≡ None) (λ f. y ≡ Some (record { areas = a; frame = f }))
    → MatchOption o (x ≡ None) (λ f. x ≡ Some (record { areas = a; frame = f }))
as_taken None a x y e h = e ∙ h
as_taken (Some f) a x y e h = e ∙ h

-- the order that is stolen from
pub found_greatest : (a : FreeAreas) (class : Class) (wanted count found : ℕ)
    → Some found ≡ greatest_order a class wanted count → IsOrderAmong wanted count found
found_greatest a class wanted count found e =
    subst (λ (o : Option ℕ). IfSome o (IsOrderAmong wanted count)) (sym e)
    (greatest_order-among a class wanted count)

-- the class that is stolen from
abbrev pub stolen_class : Mobility → Class
stolen_class mobility = usable_class NormalZone (other_mobility mobility)

-- the block stolen is the front one of the order found
pub steal_block-found : (l : LayoutParts) (a : FreeAreas) (mobility : Mobility) (from : Class)
    (wanted found : ℕ)
    → from ≡ stolen_class mobility
    → Some found ≡ greatest_order a from wanted (l.order + 1 - wanted)
    → steal_block l a mobility wanted ≡ steal_front l a mobility found wanted
unfolding steal_block
steal_block-found l a mobility from wanted found same e = rw (← same, ← e)

-- if no order has a block, none is taken or stolen
pub steal_block-none : (l : LayoutParts) (a : FreeAreas) (mobility : Mobility) (from : Class) (wanted : ℕ)
    → from ≡ stolen_class mobility
    → None ≡ greatest_order a from wanted (l.order + 1 - wanted) → steal_block l a mobility wanted ≡ None
unfolding steal_block
steal_block-none l a mobility from wanted same e = rw (← same, ← e)
