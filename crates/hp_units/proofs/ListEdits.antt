-- Lists of frames, and one list of the free areas written.
use Rattle.std.proofs.Common.{◌≡◌, ◌≢◌, ℕ, ◌+◌, ◌*◌, ◌^◌, ◌<◌, ◌≤◌, List, [], ◌∷◌, true, false, refl, arith, inl, inr, ◌==◌}
use Rattle.std.proofs.lemmas.List.{get_or-set_other, get_or-set_same}
use Rattle.std.proofs.lemmas.Nat.{pow_pos}
use Rattle.std.proofs.lemmas.Bool.{cases_eq, false_from_ne_true, or_right, or_cases, or_left, cases_Bool}
use Rattle.std.proofs.lemmas.Bool.Decides.{nat_tests}
use Rattle.hp_units.specs.declared.rows.Class.{Class}
use Rattle.hp_units.specs.declared.rows.Class.TheVariants.{Nu, Nm, Mm, IsoN, IsoM}
use Rattle.hp_units.specs.Memory.{FreeAreas, free_list, with_free_list, class_index, class_numbered}
use Rattle.hp_units.specs.FreeAreas.{is_on, without}
use Rattle.hp_units.specs.Placement.{list_places, free_places, covered}
pub use Rattle.hp_units.proofs.Lists.{on_cases}
use Rattle.hp_units.proofs.Places.{list_places-cons, HasOrder, with_free_list-places, class_index-lt}

-- ---- whether a frame is on a list

-- a frame on the rest is on the list
pub on_tail : (frame x : ℕ) (xs : List ℕ) → is_on frame xs ≡ true → is_on frame (x ∷ xs) ≡ true
on_tail frame x xs e = or_right _ _ e

-- a frame on a list without another is on the list
pub on-without : (frame block : ℕ) (frames : List ℕ) → is_on frame (without block frames) ≡ true
    → is_on frame frames ≡ true
on-without frame block [] e = e
on-without frame block (x ∷ xs) e = elim (cases_Bool (x == block)) [
  | inl same ↦ on_tail frame x xs (on-without frame block xs (rw same at e))
  | inr apart ↦ elim (or_cases (x == frame) (is_on frame (without block xs)) (rw apart at e)) [
    | inl here ↦ or_left (x == frame) (is_on frame xs) here
    | inr there ↦ on_tail frame x xs (on-without frame block xs there)
  ]
]

-- a block has its first frame
pub covered-self : (order block : ℕ) → covered block order block ≡ 1
covered-self order block =
    let some : 0 < 2 ^ order = pow_pos order in
    grind (arith, nat_tests)

-- a block on a list is in a place
pub on-places : (block order : ℕ) (frames : List ℕ) → is_on block frames ≡ true
    → 1 ≤ list_places block order frames
on-places block order [] e = cc
on-places block order (x ∷ xs) e = elim (on_cases block x xs e) [
  | inl same ↦ rw (list_places-cons, same, covered-self) (omega arith)
  | inr on ↦ omega (arith, on-places block order xs on, list_places-cons block order x xs)
]

-- a frame in no block of a list is not on it
pub off_by_places : (block order : ℕ) (frames : List ℕ) → list_places block order frames ≡ 0
    → is_on block frames ≡ false
off_by_places block order frames e =
    false_from_ne_true (is_on block frames)
    (λ on. let some : 1 ≤ list_places block order frames = on-places block order frames on in omega arith)

-- a frame is in at most as many blocks of one list as of all lists
pub list_places-le : (a : FreeAreas) (class : Class) (order frame : ℕ) → HasOrder a order
    → list_places frame order (free_list a class order) ≤ free_places a frame
list_places-le a class order frame h = omega (arith, with_free_list-places a class order frame [] h)

-- a frame in no free block is on no list
pub off-free : (a : FreeAreas) (class : Class) (order frame : ℕ) → HasOrder a order → free_places a frame ≡ 0
    → is_on frame (free_list a class order) ≡ false
off-free a class order frame h e =
    off_by_places frame order _ (omega (arith, list_places-le a class order frame h))

-- ---- one list written: whatever holds of the list written, and of all before, holds of all

-- a class is the one of its index
pub class_numbered-index : (class : Class) → class_numbered (class_index class) ≡ class
class_numbered-index Nu = refl
class_numbered-index Nm = refl
class_numbered-index Mm = refl
class_numbered-index IsoN = refl
class_numbered-index IsoM = refl

-- classes of one index are one
pub class_index-same : (class other : Class) → class_index class ≡ class_index other → class ≡ other
class_index-same class other e = rw (← class_numbered-index class, e) (class_numbered-index other)

-- the list that was written
pub free_list-same : (a : FreeAreas) (class : Class) (order : ℕ) (frames : List ℕ) → HasOrder a order
    → free_list (with_free_list a class order frames) class order ≡ frames
free_list-same a class order frames h =
    let low : class_index class < 5 = class_index-lt class in
    get_or-set_same a.lists (5 * order + class_index class) frames [] (omega arith)

-- a list that is not the one written
pub free_list-apart : (a : FreeAreas) (class : Class) (order : ℕ) (frames : List ℕ) (c : Class) (o : ℕ)
    → 5 * o + class_index c ≢ 5 * order + class_index class
    → free_list (with_free_list a class order frames) c o ≡ free_list a c o
free_list-apart a class order frames c o ne =
    get_or-set_other a.lists (5 * order + class_index class) (5 * o + class_index c) frames [] ne

-- the list of this class and order, or another one
pub record IsThatList (class : Class) (order : ℕ) (c : Class) (o : ℕ) : Type 0 where
  pub class_is : c ≡ class
  pub order_is : o ≡ order

-- which of both, by the lists' numbers
pub that_list : (class : Class) (order : ℕ) (c : Class) (o : ℕ)
    → 5 * o + class_index c ≡ 5 * order + class_index class → IsThatList class order c o
that_list class order c o e =
    let low : class_index class < 5 = class_index-lt class in
    let lower : class_index c < 5 = class_index-lt c in
    record { class_is = class_index-same c class (omega arith); order_is = omega arith }

-- what holds of the list written, and of each before, holds of each after
pub free_list-cases : (P : Class → ℕ → List ℕ → Type 0) (a : FreeAreas) (class : Class) (order : ℕ)
    (frames : List ℕ)
    → HasOrder a order
    → P class order frames → ((c : Class) (o : ℕ) → P c o (free_list a c o)) → (c : Class) (o : ℕ)
    → P c o (free_list (with_free_list a class order frames) c o)
free_list-cases P a class order frames h new old c o =
    elim (cases_eq (5 * o + class_index c) (5 * order + class_index class)) [
      | inl same ↦
          let that = that_list class order c o same in
          rw (that.class_is, that.order_is, free_list-same a class order frames h) new
      | inr apart ↦ rw (free_list-apart a class order frames c o apart) (old c o)
    ]
