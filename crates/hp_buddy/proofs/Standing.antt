-- The class and the order of a free block, by the list that the links have it on.
use Rattle.std.proofs.Common.{◌≡◌, ℕ, zero, suc, ◌+◌, ◌*◌, ◌/◌, ◌%◌, ◌<◌, List, [], ◌∷◌, length, get_or, Bool, true, false, cond, Option, Some, None, replicate, refl, sym, ◌∙◌, ap, subst, arith}
use Rattle.std.proofs.lemmas.List.{length-replicate}
use Rattle.std.proofs.lemmas.Bool.{both_ways, false_from_ne_true, cond-true, cond-false}
use Rattle.hp_units.specs.declared.rows.Class.{Class}
use Rattle.hp_units.specs.declared.rows.Kind.{Kind}
use Rattle.hp_units.specs.LayoutParts.{LayoutParts}
use Rattle.hp_units.specs.Arithmetic.{pageblock_count}
use Rattle.hp_units.specs.Memory.{free_list, class_index, class_numbered}
use Rattle.hp_units.specs.FreeAreas.{is_on}
use Rattle.hp_units.specs.Placement.{places_from}
use Rattle.hp_buddy.specs.LinkedLists.{LinkedLists, list_at, IsOn, IsUnlisted, IsApart, successor}
use Rattle.hp_buddy.specs.Buddy.{BuddyValue, AreApart, place_from, place_of, next_from}
use Rattle.hp_units.proofs.Lists.{at_replicate}
use Rattle.hp_units.proofs.Places.{class_index-lt}
use Rattle.hp_units.proofs.ListEdits.{class_numbered-index}
use Rattle.hp_buddy.proofs.Linked.{contains_on, on_contains, off_list}
use Rattle.hp_buddy.proofs.Notes.{Seen}

-- ---- the list of a number

-- an index is the one of its class
index-numbered : (n : ℕ) → n < 5 → class_index (class_numbered n) ≡ n
index-numbered zero h = refl
index-numbered (suc zero) h = refl
index-numbered (suc (suc zero)) h = refl
index-numbered (suc (suc (suc zero))) h = refl
index-numbered (suc (suc (suc (suc zero)))) h = refl
index-numbered (suc (suc (suc (suc (suc n))))) h = absurd (omega arith)

-- the class and the order that a list's number gives lead back to the number
pub number_back : (n : ℕ) → 5 * (n / 5) + class_index (class_numbered (n % 5)) ≡ n
number_back n = omega (arith, index-numbered (n % 5) (omega arith))

-- a list's number gives the list's class
pub number_class : (class : Class) (order n : ℕ) → n ≡ 5 * order + class_index class
    → class_numbered (n % 5) ≡ class
number_class class order n e =
    let rest : n % 5 ≡ class_index class = omega (arith, class_index-lt class) in
    ap class_numbered rest ∙ class_numbered-index class

-- and its order
pub number_order : (class : Class) (order n : ℕ) → n ≡ 5 * order + class_index class → n / 5 ≡ order
number_order class order n e = omega (arith, class_index-lt class)

-- ---- the one list that a frame is on

-- the place on the list of a number
pub place_from-at : (f number k : ℕ) (lists : List (List ℕ)) → is_on f (get_or lists k []) ≡ true
    → ((j : ℕ) → is_on f (get_or lists j []) ≡ true → j ≡ k)
    → place_from f number lists ≡ Some (class_numbered ((number + k) % 5), (number + k) / 5)
place_from-at f number k [] on one = absurd (both_ways (is_on f []) refl on)
place_from-at f number zero (frames ∷ lists) on one =
    let sum : number ≡ number + 0 = omega arith in
    rw (cond-true (is_on f frames) (Some (class_numbered (number % 5), number / 5))
    (place_from f (number + 1) lists) on) (ap (λ (n : ℕ). Some (class_numbered (n % 5), n / 5)) sum)
place_from-at f number (suc k) (frames ∷ lists) on one =
    let sum : number + 1 + k ≡ number + suc k = omega arith in
    let off : is_on f frames ≡ false =
    false_from_ne_true (is_on f frames) (λ here. let same : 0 ≡ suc k = one 0 here in omega arith) in
    rw (cond-false (is_on f frames) (Some (class_numbered (number % 5), number / 5))
    (place_from f (number + 1) lists) off) (rw (place_from-at f (number + 1) k lists on
    (λ j there. let same : suc j ≡ suc k = one (suc j) there in omega arith)) (rw sum))

-- a frame on no list has no place
pub place_from-none : (f number : ℕ) (lists : List (List ℕ)) → ((j : ℕ) → is_on f (get_or lists j []) ≡ false)
    → place_from f number lists ≡ None
place_from-none f number [] off = refl
place_from-none f number (frames ∷ lists) off =
    cond-false (is_on f frames) (Some (class_numbered (number % 5), number / 5))
    (place_from f (number + 1) lists) (off 0)
    ∙ place_from-none f (number + 1) lists (λ j. off (suc j))

-- a frame that is neither on the first list nor on the others
off_first : (f : ℕ) (frames : List ℕ) (lists : List (List ℕ)) → is_on f frames ≡ false
    → ((k : ℕ) → is_on f (get_or lists k []) ≡ false) → (k : ℕ)
    → is_on f (get_or (frames ∷ lists) k []) ≡ false
off_first f frames lists first others zero = first
off_first f frames lists first others (suc k) = others k

-- the next frame is the one that follows on the list with the frame, and None if no list has it
next_from-is : (f : ℕ) (lists : List (List ℕ)) (next : Option ℕ)
    → ((k : ℕ) → is_on f (get_or lists k []) ≡ true → next ≡ successor f (get_or lists k []))
    → (((k : ℕ) → is_on f (get_or lists k []) ≡ false) → next ≡ None) → next ≡ next_from f lists
next_from-is f [] next on off = off (λ k. refl)
next_from-is f (frames ∷ lists) next on off =
    by_first (is_on f frames) f frames next (next_from f lists) refl (on 0)
    (λ first. next_from-is f lists next (λ k. on (suc k))
    (λ others. off (off_first f frames lists first others)))
  where
    by_first : (here : Bool) (f : ℕ) (frames : List ℕ) (next later : Option ℕ) → is_on f frames ≡ here
        → (is_on f frames ≡ true → next ≡ successor f frames) → (is_on f frames ≡ false → next ≡ later)
        → next ≡ cond (is_on f frames) (successor f frames) later
    by_first true f frames next later e on off = on e ∙ sym (cond-true (is_on f frames) _ later e)
    by_first false f frames next later e on off = off e ∙ sym (cond-false (is_on f frames) _ later e)

-- and so is the frame that the links show as next
pub next-is : (links : LinkedLists) (f : ℕ) (next : Option ℕ)
    → ((k : ℕ) → IsOn links k f → next ≡ successor f (list_at links k)) → (IsUnlisted links f → next ≡ None)
    → next ≡ next_from f links.lists
next-is links f next on off =
    next_from-is f links.lists next (λ k there. on k (on_contains f (get_or links.lists k []) there))
    (λ none. off (λ k there.
    both_ways (is_on f (get_or links.lists k [])) (none k) (contains_on f (get_or links.lists k []) there)))

-- ---- of the value that contracts see

-- a frame on a list is on no other list
one : (links : LinkedLists) (f k : ℕ) → IsOn links k f → IsApart links → (j : ℕ)
    → is_on f (get_or links.lists j []) ≡ true → j ≡ k
one links f k on apart j there = apart.one_list j k f (on_contains f (get_or links.lists j []) there) on

-- the place of a frame on a list
pub seen-place : (v : BuddyValue) (l : LayoutParts) (links : LinkedLists) (kinds : List Kind) (f k n : ℕ)
    (class : Class)
    → Seen v l links kinds → IsOn links k f → IsApart links
    → n ≡ k → class ≡ class_numbered (n % 5) → Some (class, n / 5) ≡ place_of v.areas f
seen-place v l links kinds f k n class s on apart same is =
    rw (← s.is) (rw (is, same, zero-add-sym k) (rw (← place_from-at f 0 k links.lists
    (contains_on f (get_or links.lists k []) on) (one links f k on apart))))
  where
    zero-add-sym : (k : ℕ) → k ≡ 0 + k
    zero-add-sym k = omega arith

-- a frame on no list has no place
pub seen-no_place : (v : BuddyValue) (l : LayoutParts) (links : LinkedLists) (kinds : List Kind) (f : ℕ)
    → Seen v l links kinds → IsUnlisted links f → None ≡ place_of v.areas f
seen-no_place v l links kinds f s none =
    rw (← s.is) (sym (place_from-none f 0 links.lists (λ j. off_list links f j none)))

-- a free block's list
pub seen-on : (v : BuddyValue) (l : LayoutParts) (links : LinkedLists) (kinds : List Kind) (class : Class)
    (order f : ℕ)
    → Seen v l links kinds
    → is_on f (free_list v.areas class order) ≡ true → IsOn links (5 * order + class_index class) f
seen-on v l links kinds class order f s on =
    on_contains f (get_or links.lists (5 * order + class_index class) [])
    (subst (λ (w : BuddyValue). is_on f (free_list w.areas class order) ≡ true) (sym s.is) on)

-- a frame on a list is a free block of that list
pub seen-free : (v : BuddyValue) (l : LayoutParts) (links : LinkedLists) (kinds : List Kind) (f k n : ℕ)
    (class : Class)
    → Seen v l links kinds → IsOn links k f
    → n ≡ k → class ≡ class_numbered (n % 5) → is_on f (free_list v.areas class (n / 5)) ≡ true
seen-free v l links kinds f k n class s on same is =
    rw (← s.is, is, number_back n, same) (contains_on f (get_or links.lists k []) on)

-- ---- nothing is free

-- no frame is in a free block
pub none-places : (f number n : ℕ) → places_from f number (replicate n []) ≡ 0
none-places f number zero = refl
none-places f number (suc n) = omega (arith, none-places f (number + 1) n)

-- areas with nothing free
pub empty-apart : (l : LayoutParts) (lists : List (List ℕ)) (kinds : List Kind)
    → lists ≡ replicate (5 * (l.order + 1)) [] → length kinds ≡ pageblock_count l
    → AreApart l (record { lists = lists; kinds = kinds })
empty-apart l lists kinds is size =
    subst (λ (ls : List (List ℕ)). AreApart l (record { lists = ls; kinds = kinds })) (sym is) (record {
      areas = record {
        lists = length-replicate (5 * (l.order + 1)) [];
        kinds = size;
        free = λ class order first on. absurd (nothing class order first on);
      };
      aligned = λ class order first on. absurd (nothing class order first on);
      once = λ frame. omega (arith, none-places frame 0 (5 * (l.order + 1)));
    })
  where
    nothing : (class : Class) (order first : ℕ)
        → is_on first (get_or (replicate (5 * (l.order + 1)) []) (5 * order + class_index class) []) ≡ true
        → ⊥
    nothing class order first on =
        both_ways (is_on first []) refl (subst (λ (xs : List ℕ). is_on first xs ≡ true)
        (at_replicate (5 * (l.order + 1)) (5 * order + class_index class) []) on)
