-- What each small change notes: its delta fits the areas that it left, and leads back to those that
-- it found.
use Rattle.std.proofs.Common.{◌≡◌, ℕ, ◌+◌, ◌*◌, ◌<◌, ◌≤◌, List, [], ◌∷◌, ◌++◌, length, get_or, set, Bool, true, false, not, Option, Some, None, refl, sym, ◌∙◌, ap, subst, arith, ◌&&◌}
use Rattle.std.specs.Option.{ForSome, option_map_or}
use Rattle.std.specs.List.{list_all}
use Rattle.std.proofs.lemmas.List.{get_or-set_same, length-map, length-set, set-set, set-get_or}
use Rattle.std.proofs.lemmas.Bool.{eq-eqb, false_from_ne_true}
use Rattle.hp_units.specs.declared.rows.Class.{Class}
use Rattle.hp_units.specs.declared.rows.Kind.{Kind}
use Rattle.hp_units.specs.LayoutParts.{LayoutParts}
use Rattle.hp_units.specs.Arithmetic.{frame_count, pageblock_count}
use Rattle.hp_units.specs.Memory.{FreeAreas, free_list, with_kind, kind_of, class_index, plain_kind}
use Rattle.hp_units.specs.FreeAreas.{is_on, without_free, with_front, with_back}
use Rattle.hp_units.specs.Placement.{list_places, free_places}
use Rattle.hp_tape.specs.declared.deltas.Delta.{Delta}
use Rattle.hp_tape.specs.declared.deltas.Delta.TheVariants.{Link, Unlink, Kind as KindDelta}
use Rattle.hp_tape.specs.declared.deltas.ListId.TheVariants.{Area}
use Rattle.hp_tape.specs.Deltas.{FitsAreas, IsDeltaOf, IsOfAreas, areas_undo, is_behind}
use Rattle.hp_tape.specs.Tapes.{TapeValue, NotesAreas}
use Rattle.hp_buddy.specs.LinkedLists.{LinkedLists, list_at, with_list, off_lists, IsOn, IsListed, IsUnlisted, with_behind, last, without as without_first}
use Rattle.hp_buddy.specs.Buddy.{BuddyValue, IsBuddyOf}
use Rattle.hp_units.proofs.Places.{class_index-lt, list_places-cons, HasOrder}
use Rattle.hp_units.proofs.Tables.{get_set}
use Rattle.hp_units.proofs.ListEdits.{on-places, covered-self, list_places-le}
use Rattle.hp_buddy.proofs.Linked.{areas_of, unlisted, contains_on, on_contains, off_list, off_all, without-same, put_behind-same, AreDistinct, behind-last, without-front, without-back}

-- one delta
pub notes-one : (l : LayoutParts) (delta : Delta) (was now : TapeValue) (later earlier : FreeAreas)
    → now.room ≡ was.room → now.deltas ≡ was.deltas ++ delta ∷ []
    → IsOfAreas delta → IsDeltaOf l delta → FitsAreas delta later → areas_undo delta later ≡ earlier
    → NotesAreas l 1 was now later earlier
notes-one l delta was now later earlier room noted own numbers fits back = record {
  deltas = delta ∷ [];
  tape = rw (room, noted);
  few = omega arith;
  own = (own, tt);
  numbers = (numbers, tt);
  lead = record { fit = (tt, fits); back = back };
}

-- the list of a class and an order of the layout is one of the lists
pub list_in : (l : LayoutParts) (links : LinkedLists) (kinds : List Kind) (class : Class) (order : ℕ)
    → IsBuddyOf l links kinds → order ≤ l.order → 5 * order + class_index class < length links.lists
list_in l links kinds class order h low = omega (arith, h.list_count, class_index-lt class)

-- ---- what calls of the tables need

-- what contracts see of the tables
abbrev pub buddy_of : LayoutParts → LinkedLists → List Kind → BuddyValue
buddy_of l links kinds = record { layout = l; areas = areas_of links kinds }

-- an order of the layout is small
pub order-small : {v : BuddyValue} {l : LayoutParts} {links : LinkedLists} {kinds : List Kind} {order : ℕ}
    → IsBuddyOf l links kinds → buddy_of l links kinds ≡ v → order ≤ v.layout.order → order < 32
order-small {v} {l} kept is low =
    let same : l.order ≡ v.layout.order = ap (λ (w : BuddyValue). w.layout.order) is in
    omega (arith, low, kept.layout.order)

-- the order's lists are in the table, and so is a frame of the layout
pub list-there : {v : BuddyValue} {l : LayoutParts} {links : LinkedLists} {kinds : List Kind} {order n : ℕ}
    (class : Class)
    → IsBuddyOf l links kinds → buddy_of l links kinds ≡ v → order ≤ v.layout.order
    → n ≡ 5 * order + class_index class → n < length links.lists
list-there {v} {l} class kept is low place =
    let same : l.order ≡ v.layout.order = ap (λ (w : BuddyValue). w.layout.order) is in
    omega (arith, low, kept.list_count, place, class_index-lt class)

pub frame-there : {v : BuddyValue} {l : LayoutParts} {links : LinkedLists} {kinds : List Kind} {f : ℕ}
    → IsBuddyOf l links kinds → buddy_of l links kinds ≡ v → f < frame_count v.layout
    → f < links.frame_count
frame-there {f = f} kept is low = rw (kept.frame_count ∙ ap (λ (w : BuddyValue). frame_count w.layout) is) low

-- the tables are those of the layout with another list in them, and with a frame on no list
pub kept-with : {l : LayoutParts} {links new : LinkedLists} {kinds : List Kind} (n : ℕ) (frames : List ℕ)
    → IsBuddyOf l links kinds → new ≡ with_list links n frames → IsBuddyOf l new kinds
kept-with {links = links} n frames kept is = record {
  layout = kept.layout;
  frame_count = ap (λ (k : LinkedLists). k.frame_count) is ∙ kept.frame_count;
  list_count = rw (is, length-set links.lists n frames) kept.list_count;
  kind_count = kept.kind_count;
}

pub kept-off : {l : LayoutParts} {links new : LinkedLists} {kinds : List Kind} (f : ℕ)
    → IsBuddyOf l links kinds → new ≡ off_lists f links → IsBuddyOf l new kinds
kept-off {links = links} f kept is = record {
  layout = kept.layout;
  frame_count = ap (λ (k : LinkedLists). k.frame_count) is ∙ kept.frame_count;
  list_count = rw (is, length-map links.lists (without_first f)) kept.list_count;
  kind_count = kept.kind_count;
}

-- two tests that hold
pub both : (a b : Bool) → a ≡ true → b ≡ true → (a && b) ≡ true
both true b e h = h
both false b e h = cc

-- ---- a free block leaves its list

-- what an unlink ensures
pub record IsUnlinked (links new : LinkedLists) (f : ℕ) (after : Option ℕ) : Type 0 where
  pub free : IsUnlisted new f
  pub one_list : (list : ℕ) → IsOn links list f
      → new ≡ with_list links list (without_first f (list_at links list))
  pub before_on : (list : ℕ) → IsOn links list f → ForSome after (λ before. IsOn new list before)
  pub undone : (list : ℕ) → IsOn links list f
      → with_list new list (with_behind after f (list_at new list)) ≡ links

-- the areas without the block
pub unlink-areas : (l : LayoutParts) (links new : LinkedLists) (kinds : List Kind) (class : Class)
    (order f : ℕ) (after : Option ℕ)
    → IsBuddyOf l links kinds → order ≤ l.order
    → is_on f (free_list (areas_of links kinds) class order) ≡ true → IsUnlinked links new f after
    → areas_of new kinds ≡ without_free (areas_of links kinds) class order f
unlink-areas l links new kinds class order f after h low on u =
    let n : ℕ = 5 * order + class_index class in
    let xs : List ℕ = get_or links.lists n [] in
    let is : new ≡ with_list links n (without_first f xs) = u.one_list n (on_contains f xs on) in
    let here : get_or new.lists n [] ≡ without_first f xs =
    rw is (get_or-set_same links.lists n (without_first f xs) [] (list_in l links kinds class order h low)) in
    let off : is_on f (without_first f xs) ≡ false = rw (← here) (off_list new f n u.free) in
    rw (is, without-same f xs off)

-- a test of `after`
pub after-on : (after : Option ℕ) (xs : List ℕ) → ((b : ℕ) → after ≡ Some b → is_on b xs ≡ true)
    → option_map_or (λ first. is_on first xs) after true ≡ true
after-on None xs h = refl
after-on (Some b) xs h = h b refl

-- and the delta of the unlink
pub unlink-notes : (l : LayoutParts) (links new : LinkedLists) (kinds : List Kind) (class : Class)
    (order f : ℕ) (after : Option ℕ) (was now : TapeValue) (delta : Delta)
    → IsBuddyOf l links kinds → order ≤ l.order → f < frame_count l
    → is_on f (free_list (areas_of links kinds) class order) ≡ true → IsUnlinked links new f after
    → now.room ≡ was.room → now.deltas ≡ was.deltas ++ delta ∷ [] → delta ≡ Unlink (Area class order) f after
    → NotesAreas l 1 was now (areas_of new kinds) (areas_of links kinds)
unlink-notes l links new kinds class order f after was now delta h low frame on u room noted is =
    let n : ℕ = 5 * order + class_index class in
    let there = on_contains f (get_or links.lists n []) on in
    let xs : List ℕ = get_or new.lists n [] in
    let off : list_all (λ other. not (is_on f other)) new.lists ≡ true =
    off_all f new.lists (λ k. off_list new f k u.free) in
    let behind : option_map_or (λ first. is_on first xs) after true ≡ true =
    after-on after xs (λ b e. contains_on b xs (u.before_on n there b e)) in
    notes-one l (Unlink (Area class order) f after) was now (areas_of new kinds) (areas_of links kinds) room
    (noted ∙ ap (λ (d : Delta). was.deltas ++ d ∷ []) is)
    tt (low, frame)
    (both (list_all (λ other. not (is_on f other)) new.lists)
    (option_map_or (λ first. is_on first xs) after true) off behind)
    (rw (put_behind-same after f xs) (ap (λ (k : LinkedLists). areas_of k kinds) (u.undone n there)))

-- ---- a block comes to a list

-- in front
pub front-notes : (l : LayoutParts) (links : LinkedLists) (kinds : List Kind) (class : Class) (order f : ℕ)
    (was now : TapeValue) (delta : Delta)
    → IsBuddyOf l links kinds → order ≤ l.order → f < frame_count l → IsUnlisted links f
    → now.room ≡ was.room → now.deltas ≡ was.deltas ++ delta ∷ [] → delta ≡ Link (Area class order) f None
    → NotesAreas l 1 was now (with_front (areas_of links kinds) class order f) (areas_of links kinds)
front-notes l links kinds class order f was now delta h low frame none room noted is =
    let n : ℕ = 5 * order + class_index class in
    let xs : List ℕ = get_or links.lists n [] in
    let here : get_or (set links.lists n (f ∷ xs)) n [] ≡ f ∷ xs =
    get_or-set_same links.lists n (f ∷ xs) [] (list_in l links kinds class order h low) in
    notes-one l (Link (Area class order) f None) was now (with_front (areas_of links kinds) class order f)
    (areas_of links kinds) room (noted ∙ ap (λ (d : Delta). was.deltas ++ d ∷ []) is)
    tt (low, frame)
    (ap (λ (ys : List ℕ). is_behind None f ys) here ∙ eq-eqb f f refl)
    (rw (here, without-front f xs (off_list links f n none), set-set links.lists n (f ∷ xs) xs)
    (rw (set-get_or links.lists n [])))

-- at the back
pub back-notes : (l : LayoutParts) (links : LinkedLists) (kinds : List Kind) (class : Class) (order f : ℕ)
    (after : Option ℕ) (was now : TapeValue) (delta : Delta)
    → IsBuddyOf l links kinds → order ≤ l.order → f < frame_count l → IsUnlisted links f
    → AreDistinct (free_list (areas_of links kinds) class order)
    → after ≡ last (free_list (areas_of links kinds) class order)
    → now.room ≡ was.room → now.deltas ≡ was.deltas ++ delta ∷ [] → delta ≡ Link (Area class order) f after
    → NotesAreas l 1 was now (with_back (areas_of links kinds) class order f) (areas_of links kinds)
back-notes l links kinds class order f after was now delta h low frame none distinct after_is room noted is =
    let n : ℕ = 5 * order + class_index class in
    let xs : List ℕ = get_or links.lists n [] in
    let here : get_or (set links.lists n (xs ++ f ∷ [])) n [] ≡ xs ++ f ∷ [] =
    get_or-set_same links.lists n (xs ++ f ∷ []) [] (list_in l links kinds class order h low) in
    notes-one l (Link (Area class order) f after) was now (with_back (areas_of links kinds) class order f)
    (areas_of links kinds) room (noted ∙ ap (λ (d : Delta). was.deltas ++ d ∷ []) is)
    tt (low, frame)
    (rw (here, after_is) (behind-last f xs distinct))
    (rw (here, without-back f xs (off_list links f n none), set-set links.lists n (xs ++ f ∷ []) xs)
    (rw (set-get_or links.lists n [])))

-- ---- a kind

-- a pageblock gets a kind
pub kind-notes : (l : LayoutParts) (a : FreeAreas) (pageblock : ℕ) (kind : Kind) (was now : TapeValue)
    (delta : Delta)
    → pageblock < length a.kinds → length a.kinds ≡ pageblock_count l
    → now.room ≡ was.room → now.deltas ≡ was.deltas ++ delta ∷ []
    → delta ≡ KindDelta pageblock (kind_of a pageblock) kind
    → NotesAreas l 1 was now (with_kind a pageblock kind) a
kind-notes l a pageblock kind was now delta lt size room noted is =
    notes-one l (KindDelta pageblock (kind_of a pageblock) kind) was now (with_kind a pageblock kind) a room
    (noted ∙ ap (λ (d : Delta). was.deltas ++ d ∷ []) is)
    tt (omega arith)
    (get_set a.kinds pageblock kind lt)
    (rw (set-set a.kinds pageblock kind (kind_of a pageblock)) (rw (set-get_or a.kinds pageblock plain_kind)))

-- ---- the same of the value that contracts see

-- what contracts see of the tables, which are those of the layout
pub record Seen (v : BuddyValue) (l : LayoutParts) (links : LinkedLists) (kinds : List Kind) : Type 0 where
  pub is : buddy_of l links kinds ≡ v
  pub kept : IsBuddyOf l links kinds

-- a frame of no free block is on no list
pub seen-unlisted : (v : BuddyValue) (l : LayoutParts) (links : LinkedLists) (kinds : List Kind) (f : ℕ)
    → Seen v l links kinds → free_places v.areas f ≡ 0 → IsUnlisted links f
seen-unlisted v l links kinds f s none =
    unlisted links kinds f (subst (λ (w : BuddyValue). free_places w.areas f ≡ 0) (sym s.is) none)

-- a free block is on a list
pub seen-listed : (v : BuddyValue) (l : LayoutParts) (links : LinkedLists) (kinds : List Kind) (class : Class)
    (order f : ℕ)
    → Seen v l links kinds
    → is_on f (free_list v.areas class order) ≡ true → IsListed links f
seen-listed v l links kinds class order f s on = (
  5 * order + class_index class,
  on_contains f (get_or links.lists (5 * order + class_index class) [])
      (subst (λ (w : BuddyValue). is_on f (free_list w.areas class order) ≡ true) (sym s.is) on),
)

-- a free block left its list
pub record UnlinkSeen (v : BuddyValue) (new : LinkedLists) (kinds : List Kind) (class : Class) (order f : ℕ)
    (was now : TapeValue) : Type 0 where
  pub areas : areas_of new kinds ≡ without_free v.areas class order f
  pub notes : NotesAreas v.layout 1 was now (areas_of new kinds) v.areas

-- the same, by what the unlink ensures
pub seen-unlink : (v : BuddyValue) (l : LayoutParts) (links new : LinkedLists) (kinds : List Kind)
    (class : Class) (order f : ℕ) (after : Option ℕ) (was now : TapeValue) (delta : Delta)
    → Seen v l links kinds → order ≤ v.layout.order → f < frame_count v.layout
    → is_on f (free_list v.areas class order) ≡ true → IsUnlinked links new f after
    → now.room ≡ was.room → now.deltas ≡ was.deltas ++ delta ∷ [] → delta ≡ Unlink (Area class order) f after
    → UnlinkSeen v new kinds class order f was now
seen-unlink v l links new kinds class order f after was now delta s low frame on u room noted is =
    subst (λ (w : BuddyValue). order ≤ w.layout.order → f < frame_count w.layout
    → is_on f (free_list w.areas class order) ≡ true → UnlinkSeen w new kinds class order f was now) s.is
    (λ low frame on. record {
      areas = unlink-areas l links new kinds class order f after s.kept low on u;
      notes =
          unlink-notes l links new kinds class order f after was now delta s.kept low frame on u room noted
          is;
    }) low frame on

-- a block came to the front
pub seen-front : (v : BuddyValue) (l : LayoutParts) (links : LinkedLists) (kinds : List Kind) (class : Class)
    (order f : ℕ) (was now : TapeValue) (delta : Delta)
    → Seen v l links kinds → order ≤ v.layout.order → f < frame_count v.layout → free_places v.areas f ≡ 0
    → now.room ≡ was.room → now.deltas ≡ was.deltas ++ delta ∷ [] → delta ≡ Link (Area class order) f None
    → NotesAreas v.layout 1 was now (with_front v.areas class order f) v.areas
seen-front v l links kinds class order f was now delta s low frame none room noted is =
    subst (λ (w : BuddyValue). order ≤ w.layout.order → f < frame_count w.layout
    → NotesAreas w.layout 1 was now (with_front w.areas class order f) w.areas) s.is
    (λ low frame. front-notes l links kinds class order f was now delta s.kept low frame
    (seen-unlisted v l links kinds f s none) room noted is) low frame

-- no frame is twice on a list if it is in at most one free block
distinct_by_places : (order : ℕ) (xs : List ℕ) → ((frame : ℕ) → list_places frame order xs ≤ 1)
    → AreDistinct xs
distinct_by_places order [] few = tt
distinct_by_places order (x ∷ xs) few = (
  false_from_ne_true (is_on x xs) (λ on.
      let some : 1 ≤ list_places x order xs = on-places x order xs on in
      absurd (omega (arith, few x, list_places-cons x order x xs, covered-self order x))),
  distinct_by_places order xs (λ frame. omega (arith, few frame, list_places-cons frame order x xs)),
)

-- the lists of areas with each frame in at most one free block
pub distinct : (a : FreeAreas) (class : Class) (order : ℕ) → HasOrder a order
    → ((frame : ℕ) → free_places a frame ≤ 1) → AreDistinct (free_list a class order)
distinct a class order has once =
    distinct_by_places order (free_list a class order)
    (λ frame. omega (arith, once frame, list_places-le a class order frame has))

-- a block came to the back
pub seen-back : (v : BuddyValue) (l : LayoutParts) (links : LinkedLists) (kinds : List Kind) (class : Class)
    (order f : ℕ) (after : Option ℕ) (was now : TapeValue) (delta : Delta)
    → Seen v l links kinds → order ≤ v.layout.order → f < frame_count v.layout
    → ((frame : ℕ) → free_places v.areas frame ≤ 1) → free_places v.areas f ≡ 0
    → after ≡ last (get_or links.lists (5 * order + class_index class) [])
    → now.room ≡ was.room → now.deltas ≡ was.deltas ++ delta ∷ [] → delta ≡ Link (Area class order) f after
    → NotesAreas v.layout 1 was now (with_back v.areas class order f) v.areas
seen-back v l links kinds class order f after was now delta s low frame once none after_is room noted is =
    subst (λ (w : BuddyValue). order ≤ w.layout.order → f < frame_count w.layout
    → ((frame : ℕ) → free_places w.areas frame ≤ 1)
    → NotesAreas w.layout 1 was now (with_back w.areas class order f) w.areas) s.is
    (λ low frame once.
    back-notes l links kinds class order f after was now delta s.kept low frame
    (seen-unlisted v l links kinds f s none)
    (distinct (areas_of links kinds) class order (omega (arith, s.kept.list_count)) once) after_is room noted
    is) low frame once

-- a pageblock got a kind
pub seen-kind : (v : BuddyValue) (l : LayoutParts) (links : LinkedLists) (kinds : List Kind)
    (pageblock at : ℕ) (kind : Kind) (was now : TapeValue) (delta : Delta)
    → Seen v l links kinds → at ≡ pageblock → pageblock < pageblock_count v.layout
    → now.room ≡ was.room → now.deltas ≡ was.deltas ++ delta ∷ []
    → delta ≡ KindDelta pageblock (kind_of v.areas pageblock) kind
    → NotesAreas v.layout 1 was now (record { lists = links.lists; kinds = set kinds at kind }) v.areas
seen-kind v l links kinds pageblock at kind was now delta s same low room noted is =
    subst (λ (w : BuddyValue). pageblock < pageblock_count w.layout
    → delta ≡ KindDelta pageblock (kind_of w.areas pageblock) kind
    → NotesAreas w.layout 1 was now (record { lists = links.lists; kinds = set kinds at kind }) w.areas) s.is
    (λ low is. rw same (kind-notes l (areas_of links kinds) pageblock kind was now delta
    (omega (arith, s.kept.kind_count)) s.kept.kind_count room noted is)) low is

-- the areas after a push, by the links that it left
pub front-areas : (v : BuddyValue) (l : LayoutParts) (links new : LinkedLists) (kinds : List Kind)
    (class : Class) (order f n : ℕ)
    → Seen v l links kinds
    → n ≡ 5 * order + class_index class → new ≡ with_list links n (f ∷ list_at links n)
    → areas_of new kinds ≡ with_front v.areas class order f
front-areas v l links new kinds class order f n s number is =
    rw (← s.is) (rw (is, number))

-- the same at the back
pub back-areas : (v : BuddyValue) (l : LayoutParts) (links new : LinkedLists) (kinds : List Kind)
    (class : Class) (order f n : ℕ)
    → Seen v l links kinds
    → n ≡ 5 * order + class_index class → new ≡ with_list links n (list_at links n ++ f ∷ [])
    → areas_of new kinds ≡ with_back v.areas class order f
back-areas v l links new kinds class order f n s number is =
    rw (← s.is) (rw (is, number))
