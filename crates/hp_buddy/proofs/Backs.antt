-- Undoing one delta, on the lists of links.
use Rattle.std.proofs.Common.{◌≡◌, ℕ, ◌+◌, ◌*◌, ◌≤◌, List, [], ◌∷◌, get_or, Bool, true, false, not, cond, Option, Some, None, sym, ◌∙◌, ap, subst, ◌==◌}
use Rattle.std.specs.List.{list_all}
use Rattle.std.specs.Option.{ForSome, option_map_or}
use Rattle.std.proofs.lemmas.Bool.{and_parts, or_left}
use Rattle.hp_units.specs.declared.rows.Class.{Class}
use Rattle.hp_units.specs.declared.rows.Kind.{Kind}
use Rattle.hp_units.specs.LayoutParts.{LayoutParts}
use Rattle.hp_units.specs.Memory.{FreeAreas, free_list, class_index}
use Rattle.hp_units.specs.FreeAreas.{is_on}
use Rattle.hp_tape.specs.declared.deltas.Delta.{Delta}
use Rattle.hp_tape.specs.declared.deltas.Delta.TheVariants.{Link, Unlink}
use Rattle.hp_tape.specs.declared.deltas.ListId.{ListId}
use Rattle.hp_tape.specs.declared.deltas.ListId.TheVariants.{Area}
use Rattle.hp_tape.specs.Deltas.{FitsAreas, IsDeltaOf, areas_undo, is_behind}
use Rattle.hp_buddy.specs.LinkedLists.{LinkedLists, list_at, with_list, IsOn, with_behind}
use Rattle.hp_buddy.specs.Buddy.{BuddyValue}
use Rattle.hp_buddy.proofs.Linked.{areas_of, on_contains, put_behind-same}
use Rattle.hp_units.proofs.ListEdits.{on_tail}
use Rattle.hp_buddy.proofs.Notes.{Seen, IsUnlinked, unlink-areas}

-- ---- a frame that was put on a list leaves it

-- a frame after another is on the list
pub behind-on : (after : Option ℕ) (f : ℕ) (xs : List ℕ) → is_behind after f xs ≡ true → is_on f xs ≡ true
behind-on after f [] h = cc
behind-on None f (x ∷ xs) h = or_left (x == f) (is_on f xs) h
behind-on (Some a) f (x ∷ xs) h =
    on_tail f x xs (either (x == a) (is_behind None f xs) (is_behind (Some a) f xs) h (behind-on None f xs)
    (behind-on (Some a) f xs))
  where
    either : (same : Bool) (b d : Bool) → cond same b d ≡ true → (b ≡ true → is_on f xs ≡ true)
        → (d ≡ true → is_on f xs ≡ true) → is_on f xs ≡ true
    either true b d k yes_ no_ = yes_ k
    either false b d k yes_ no_ = no_ k

-- the frame of a Link that fits is on the delta's list
pub linked-on : (a : FreeAreas) (delta : Delta) (list : ListId) (class : Class) (order f : ℕ)
    (after : Option ℕ)
    → delta ≡ Link list f after → list ≡ Area class order
    → FitsAreas delta a → is_on f (free_list a class order) ≡ true
linked-on a delta list class order f after is list_is fits =
    behind-on after f (free_list a class order)
    (subst (λ (d : Delta). FitsAreas d a) (is ∙ ap (λ (k : ListId). Link k f after) list_is) fits)

-- and the delta's numbers are in the layout
pub linked-in : (l : LayoutParts) (delta : Delta) (list : ListId) (class : Class) (order f : ℕ)
    (after : Option ℕ)
    → delta ≡ Link list f after → list ≡ Area class order
    → IsDeltaOf l delta → order ≤ l.order
linked-in l delta list class order f after is list_is numbers =
    (subst (λ (d : Delta). IsDeltaOf l d) (is ∙ ap (λ (k : ListId). Link k f after) list_is) numbers).0

-- the frame leaves the list
pub link-undone : (v : BuddyValue) (l : LayoutParts) (links new : LinkedLists) (kinds : List Kind)
    (delta : Delta) (list : ListId) (class : Class) (order f : ℕ) (after before : Option ℕ)
    → Seen v l links kinds → delta ≡ Link list f after → list ≡ Area class order → FitsAreas delta v.areas
    → IsDeltaOf v.layout delta → IsUnlinked links new f before
    → areas_of new kinds ≡ areas_undo delta v.areas
link-undone v l links new kinds delta list class order f after before s is list_is fits numbers u =
    subst (λ (w : BuddyValue). FitsAreas delta w.areas → IsDeltaOf w.layout delta
    → areas_of new kinds ≡ areas_undo delta w.areas) s.is
    (λ fits numbers.
    rw (unlink-areas l links new kinds class order f before s.kept
    (linked-in l delta list class order f after is list_is numbers) (linked-on (areas_of links kinds) delta
    list class order f after is list_is fits) u) (ap (λ (d : Delta). areas_undo d (areas_of links kinds))
    (sym (is ∙ ap (λ (k : ListId). Link k f after) list_is)))) fits numbers

-- ---- a frame that left its list comes back

-- what a test of `after` shows
pub after-true : (after : Option ℕ) (xs : List ℕ) → option_map_or (λ first. is_on first xs) after true ≡ true
    → (a : ℕ) → after ≡ Some a → is_on a xs ≡ true
after-true None xs h a e = cc
after-true (Some b) xs h a e = let same : b ≡ a = cc in subst (λ (n : ℕ). is_on n xs ≡ true) same h

-- the frame that it is put after is on the list
pub unlinked-after : (v : BuddyValue) (l : LayoutParts) (links : LinkedLists) (kinds : List Kind)
    (delta : Delta) (list : ListId) (class : Class) (order f n : ℕ) (after : Option ℕ)
    → Seen v l links kinds → delta ≡ Unlink list f after → list ≡ Area class order → FitsAreas delta v.areas
    → n ≡ 5 * order + class_index class
    → ForSome after (λ a. IsOn links n a)
unlinked-after v l links kinds delta list class order f n after s is list_is fits number a e =
    let xs : List ℕ = get_or links.lists (5 * order + class_index class) [] in
    let fit : FitsAreas (Unlink (Area class order) f after) (areas_of links kinds) =
    subst (λ (d : Delta). FitsAreas d (areas_of links kinds)) (is ∙ ap (λ (k : ListId). Unlink k f after)
    list_is) (subst (λ (w : BuddyValue). FitsAreas delta w.areas) (sym s.is) fits) in
    let parts =
    and_parts (list_all (λ other. not (is_on f other)) links.lists)
    (option_map_or (λ first. is_on first xs) after true) fit in
    subst (λ (m : ℕ). IsOn links m a) (sym number) (on_contains a xs (after-true after xs parts.1 a e))

-- the frame comes back
pub unlink-undone : (v : BuddyValue) (l : LayoutParts) (links new : LinkedLists) (kinds : List Kind)
    (delta : Delta) (list : ListId) (class : Class) (order f n : ℕ) (after : Option ℕ)
    → Seen v l links kinds → delta ≡ Unlink list f after → list ≡ Area class order
    → n ≡ 5 * order + class_index class
    → new ≡ with_list links n (with_behind after f (list_at links n))
    → areas_of new kinds ≡ areas_undo delta v.areas
unlink-undone v l links new kinds delta list class order f n after s is list_is number relinked =
    rw (← s.is) (rw (relinked, number)
    (rw (← put_behind-same after f (get_or links.lists (5 * order + class_index class) [])) (ap (λ (d :
    Delta). areas_undo d (areas_of links kinds)) (sym (is ∙ ap (λ (k : ListId). Unlink k f after) list_is)))))
