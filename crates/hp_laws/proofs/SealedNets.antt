-- The steps of histories that follow one another are the steps of one run.
use Rattle.std.proofs.Common.{◌≡◌, ℕ, zero, suc, ◌+◌, ◌-◌, ◌<◌, ◌≤◌, List, [], ◌∷◌, ◌++◌, length, take, Some, slice_get, refl, ap, sym, ◌∙◌, arith, ◌⊎◌, inl, inr}
use Rattle.std.proofs.Math.Seq.{take-append-add}
use Rattle.std.proofs.lemmas.Bool.{cases_lt, le-ltb, lt-ltb}
use Rattle.std.proofs.lemmas.List.{append-nil, append_assoc, take-append-le, take_all}
use Rattle.std.proofs.lemmas.List.Sums.{fold_push}
use Rattle.std.proofs.lemmas.Option.{slice_get_within}
use Rattle.hp_units.specs.LayoutParts.{LayoutParts, IsLayout}
use Rattle.hp_units.specs.Memory.{Memory}
use Rattle.hp_units.specs.History.{IsLegal, net_of, run, value_of}
use Rattle.hp_units.specs.Placement.{IsWellPlaced}
use Rattle.hp_laws.specs.Operations.{BeginsAt}
use Rattle.hp_laws.specs.Seals.{AreLegal, net_of_all, state_at, state_just_after, state_just_before, value_of_all}
use Rattle.hp_laws.proofs.Names.{Record, Item}
use Rattle.hp_laws.proofs.Net.{Numbered, legal_take, numbered_none, run-append}
use Rattle.hp_laws.proofs.Earlier.{numbered_net, rooted_net}
use Rattle.hp_laws.proofs.EventSteps.{value-placed}
use Rattle.hp_laws.proofs.LawProofs.{front_legal}
use Rattle.hp_laws.proofs.Records.{AllGood, net_good}
use Rattle.hp_laws.proofs.OperationLaws.{IsBegin, is_begin}

-- ---- two lists of steps, one after the other

-- a place in one of two lists
pub record IsPast {A : Type 0} (xs ys : List A) (k : ℕ) (x : A) : Type 0 where
  pub place : ℕ
  pub sum : k ≡ length xs + place
  pub here : slice_get ys place ≡ Some x

pub get_append_cases : {A : Type 0} (xs ys : List A) (k : ℕ) (x : A) → slice_get (xs ++ ys) k ≡ Some x
    → (slice_get xs k ≡ Some x) ⊎ IsPast xs ys k x
get_append_cases [] ys k x e = inr (record { place = k; sum = omega arith; here = e })
get_append_cases (y ∷ xs) ys zero x e = inl e
get_append_cases (y ∷ xs) ys (suc k) x e = elim (get_append_cases xs ys k x e) [
  | inl at ↦ inl at
  | inr past ↦ inr (record { place = past.place; sum = omega (arith, past.sum); here = past.here })
]

-- a place of the second list, in both
pub get_right : {A : Type 0} (xs ys : List A) (k : ℕ) → slice_get (xs ++ ys) (length xs + k) ≡ slice_get ys k
get_right {A} [] ys k =
    let same : length {A = A} [] + k ≡ k = omega arith in ap (λ (i : ℕ). slice_get ys i) same
get_right (y ∷ xs) ys k =
    let next : length (y ∷ xs) + k ≡ suc (length xs + k) = omega arith in
    ap (λ (i : ℕ). slice_get (y ∷ (xs ++ ys)) i) next ∙ get_right xs ys k

-- serials that rise in both lists rise in all
numbered_both : (before mid last : ℕ) (a b : List Record) → before ≤ mid → mid ≤ last → Numbered before mid a
    → Numbered mid last b → Numbered before last (a ++ b)
numbered_both before mid last a b low high first second = record {
  over = λ i r e. elim (get_append_cases a b i r e)
      [ inl at ↦ first.over i r at | inr past ↦ omega (arith, low, second.over past.place r past.here) ];
  under = λ i r e. elim (get_append_cases a b i r e)
      [ inl at ↦ omega (arith, high, first.under i r at) | inr past ↦ second.under past.place r past.here ];
  rising = λ i j q r lt e f. elim (get_append_cases a b j r f) [
    | inl at ↦ elim (get_append_cases a b i q e) [
      | inl here ↦ first.rising i j q r lt here at
      | inr past ↦ absurd (omega (arith, lt, past.sum, slice_get_within a j r at))
    ]
    | inr later ↦ elim (get_append_cases a b i q e) [
      | inl here ↦ omega (arith, first.under i q here, second.over later.place r later.here)
      | inr past ↦
          second.rising past.place later.place q r (omega (arith, lt, past.sum, later.sum)) past.here
          later.here
    ]
  ];
}

-- the state before a step of the second list
pub run_past : (l : LayoutParts) (base : Memory) (a b : List Record) (place k : ℕ) → place ≡ length a + k
    → run l base (take place (a ++ b)) ≡ run l (run l base a) (take k b)
run_past l base a b place k is = rw (is, take-append-add a b k) (run-append l base a _)

-- steps that succeed, and then more that do
good_both : (l : LayoutParts) (base : Memory) (a b : List Record) → AllGood l base a
    → AllGood l (run l base a) b → AllGood l base (a ++ b)
good_both l base a b first second i r e = elim (get_append_cases a b i r e) [
  | inl at ↦
      let le : i ≤ length a = omega (arith, slice_get_within a i r at) in
      rw (take-append-le i a b le) (first i r at)
  | inr past ↦ rw (run_past l base a b i _ past.sum) (second past.place r past.here)
]

-- ---- histories one after another

-- how many records they have
abbrev pub count_of_all : List (List Record) → ℕ
count_of_all [] = 0
count_of_all (h ∷ later) = length h + count_of_all later

-- their steps have rising serials, none was refused, and they lead to the state that the histories
-- lead to
pub record AreSteps (l : LayoutParts) (base : Memory) (before : ℕ) (hs : List (List Record)) : Type 0 where
  pub numbered : Numbered before (before + count_of_all hs) (net_of_all hs)
  pub good : AllGood l base (net_of_all hs)
  pub value : value_of_all l base hs ≡ run l base (net_of_all hs)

pub steps_of_all : (l : LayoutParts) (base : Memory) (before : ℕ) (hs : List (List Record))
    → AreLegal l base before hs → AreSteps l base before hs
unfolding value_of run
steps_of_all l base before [] legal = record {
  numbered = numbered_none before (before + 0);
  good = λ i r e. absurd cc;
  value = refl;
}
steps_of_all l base before (h ∷ hs) legal =
    let rest : AreSteps l (value_of l base h) (before + length h) hs =
    steps_of_all l (value_of l base h) (before + length h) hs legal.1 in
    let sum : (before + length h) + count_of_all hs ≡ before + (length h + count_of_all hs) = omega arith in
    record {
      numbered =
          numbered_both before _ _ _ _ (omega arith) (omega arith) (numbered_net l base before h legal.0)
          (rw (← sum) rest.numbered);
      good = good_both l base (net_of h) (net_of_all hs) (net_good l base before h legal.0) rest.good;
      value = rest.value ∙ sym (run-append l base (net_of h) (net_of_all hs));
    }

-- the state that they lead to is well placed
pub placed_of_all : (l : LayoutParts) (base : Memory) (hs : List (List Record)) → IsLayout l
    → IsWellPlaced l base → IsWellPlaced l (value_of_all l base hs)
placed_of_all l base [] layout p = p
placed_of_all l base (h ∷ hs) layout p =
    placed_of_all l (value_of l base h) hs layout (value-placed l base h layout p)

-- the last of them stands over the state that the others lead to
pub record IsLast (l : LayoutParts) (base : Memory) (before : ℕ) (hs : List (List Record))
    (g : List Record) : Type 0 where
  pub earlier : ℕ
  pub legal : IsLegal l (value_of_all l base hs) earlier g

-- those before the last are legal
pub others_legal : (l : LayoutParts) (base : Memory) (before : ℕ) (hs : List (List Record)) (g : List Record)
    → AreLegal l base before (hs ++ g ∷ []) → AreLegal l base before hs
others_legal l base before [] g legal = tt
others_legal l base before (h ∷ hs) g legal =
    (legal.0, others_legal l (value_of l base h) (before + length h) hs g legal.1)

pub last_legal : (l : LayoutParts) (base : Memory) (before : ℕ) (hs : List (List Record)) (g : List Record)
    → AreLegal l base before (hs ++ g ∷ []) → IsLast l base before hs g
last_legal l base before [] g legal = record { earlier = before; legal = legal.0 }
last_legal l base before (h ∷ hs) g legal =
    let rest = last_legal l (value_of l base h) (before + length h) hs g legal.1 in
    record { earlier = rest.earlier; legal = rest.legal }

-- without its last record they are legal
pub front_of_all : (l : LayoutParts) (base : Memory) (before : ℕ) (hs : List (List Record)) (h : List Record)
    (r : Record)
    → AreLegal l base before (hs ++ (h ++ r ∷ []) ∷ []) → AreLegal l base before (hs ++ h ∷ [])
front_of_all l base before [] h r legal = (front_legal l base before h r legal.0, tt)
front_of_all l base before (g ∷ hs) h r legal =
    (legal.0, front_of_all l (value_of l base g) (before + length g) hs h r legal.1)

-- one history more
pub all_more : (l : LayoutParts) (base : Memory) (before : ℕ) (hs : List (List Record)) (g : List Record)
    → AreLegal l base before hs → IsLegal l (value_of_all l base hs) (before + count_of_all hs) g
    → AreLegal l base before (hs ++ g ∷ [])
all_more l base before [] g legal last =
    let none : before + 0 ≡ before = omega arith in
    (rw (← none) last, tt)
all_more l base before (h ∷ hs) g legal last =
    let sum : before + (length h + count_of_all hs) ≡ (before + length h) + count_of_all hs = omega arith in (
      legal.0,
      all_more l (value_of l base h) (before + length h) hs g legal.1
          (rw (← sum) last),
    )

-- up to one of the records of one of them
pub legal_up_to : (l : LayoutParts) (base : Memory) (before : ℕ) (h rest : List Record) (r : Record)
    → IsLegal l base before (h ++ r ∷ rest) → IsLegal l base before (h ++ r ∷ [])
legal_up_to l base before h rest r legal = rw (← first) (legal_take l base before _ _ legal)
  where
    first : take (length (h ++ r ∷ [])) (h ++ r ∷ rest) ≡ h ++ r ∷ []
    first =
        rw (← append_assoc h (r ∷ []) rest) (rw (take-append-le (length (h ++ r ∷ [])) (h ++ r ∷ []) rest
        (omega arith)) (take_all _ _ (omega arith)))

pub all_up_to : (l : LayoutParts) (base : Memory) (before : ℕ) (hs later : List (List Record))
    (h rest : List Record) (r : Record)
    → AreLegal l base before (hs ++ (h ++ r ∷ rest) ∷ later)
    → AreLegal l base before (hs ++ (h ++ r ∷ []) ∷ [])
all_up_to l base before [] later h rest r legal = (legal_up_to l base before h rest r legal.0, tt)
all_up_to l base before (g ∷ hs) later h rest r legal =
    (legal.0, all_up_to l (value_of l base g) (before + length g) hs later h rest r legal.1)

pub value-last : (l : LayoutParts) (base : Memory) (hs : List (List Record)) (g : List Record)
    → value_of_all l base (hs ++ g ∷ []) ≡ value_of l (value_of_all l base hs) g
value-last l base hs g = fold_push (λ (s : Memory) (h : List Record). value_of l s h) base hs g

pub net-last : (hs : List (List Record)) (g : List Record)
    → net_of_all (hs ++ g ∷ []) ≡ net_of_all hs ++ net_of g
net-last [] g = append-nil (net_of g)
net-last (h ∷ hs) g = rw (net-last hs g, ← append_assoc (net_of h) (net_of_all hs) (net_of g))

-- ---- the states around a record

-- after so many records of the first history, and past it
at_inside : (l : LayoutParts) (base : Memory) (h : List Record) (later : List (List Record)) (count : ℕ)
    → count < length h → state_at l base (h ∷ later) count ≡ value_of l base (take count h)
at_inside l base h later count lt = rw (lt-ltb count (length h) lt)

at_past : (l : LayoutParts) (base : Memory) (h : List Record) (later : List (List Record)) (count : ℕ)
    → length h ≤ count
    → state_at l base (h ∷ later) count ≡ state_at l (value_of l base h) later (count - length h)
at_past l base h later count ge = rw (le-ltb count (length h) ge)

-- without records the state is the base
pub no_records : (l : LayoutParts) (base : Memory) (h : List Record) → length h ≡ 0 → value_of l base h ≡ base
unfolding value_of net_of run
no_records l base [] none = refl
no_records l base (r ∷ h) none = absurd cc

none_taken : (l : LayoutParts) (base : Memory) (h : List Record) → value_of l base (take 0 h) ≡ base
unfolding value_of net_of run
none_taken l base h = refl

at_none : (l : LayoutParts) (base : Memory) (hs : List (List Record)) → state_at l base hs 0 ≡ base
at_none l base [] = refl
at_none l base (h ∷ hs) = elim (cases_lt 0 (length h)) [
  | inl some ↦ at_inside l base h hs 0 some ∙ none_taken l base h
  | inr none ↦
      let empty : length h ≡ 0 = omega (arith, none) in
      let nothing : 0 - length h ≡ 0 = omega arith in
      rw (at_past l base h hs 0 none, nothing, at_none l (value_of l base h) hs) (no_records l base h empty)
]

-- after up to all records of the first
at_within : (l : LayoutParts) (base : Memory) (h : List Record) (later : List (List Record)) (count : ℕ)
    → count ≤ length h → state_at l base (h ∷ later) count ≡ value_of l base (take count h)
at_within l base h later count le = elim (cases_lt count (length h)) [
  | inl less ↦ at_inside l base h later count less
  | inr ge ↦
      let nothing : count - length h ≡ 0 = omega (arith, le) in
      rw (at_past l base h later count ge, nothing, at_none l _ later)
      (ap (value_of l base) (sym (take_all count h ge)))
]

-- the states around a Begin are those around its place among all steps
pub record IsBeginOfAll (l : LayoutParts) (base : Memory) (before : ℕ) (hs : List (List Record)) (place : ℕ)
    (b : Record) : Type 0 where
  pub over : before < b.serial
  pub was : state_just_before l base before hs b ≡ run l base (take place (net_of_all hs))
  pub is : state_just_after l base before hs b ≡ run l base (take (suc place) (net_of_all hs))

-- in the first history
begin_inside : (l : LayoutParts) (base : Memory) (before : ℕ) (h : List Record) (later : List (List Record))
    (place : ℕ) (b : Record) (plan : List Item)
    → IsLegal l base before h → BeginsAt (net_of h) place b plan
    → IsBeginOfAll l base before (h ∷ later) place b
begin_inside l base before h later place b plan legal at =
    let begin : IsBegin l base before h place b plan = is_begin l base before h place b plan legal at in
    let roots = rooted_net l base before h legal in
    let over : before < b.serial = roots.over place b at.here in
    let stands : b.serial - before - 1 < length h =
    slice_get_within h (b.serial - before - 1) b (roots.stands place b at.here) in
    let within : place < length (net_of h) = slice_get_within (net_of h) place b at.here in
    let low : place ≤ length (net_of h) = omega (arith, within) in
    let next : suc place ≤ length (net_of h) = omega (arith, within) in
    let reached : b.serial - before ≤ length h = omega (arith, over, stands) in
    record {
      over = over;
      was =
          rw (at_inside l base h later _ stands, begin.was)
          (rw (← take-append-le place (net_of h) (net_of_all later) low));
      is =
          rw (at_within l base h later _ reached, begin.is)
          (rw (← take-append-le (suc place) (net_of h) (net_of_all later) next));
    }

-- in a later one
begin_past : (l : LayoutParts) (base : Memory) (before : ℕ) (h : List Record) (later : List (List Record))
    (place k : ℕ) (b : Record)
    → place ≡ length (net_of h) + k
    → IsBeginOfAll l (value_of l base h) (before + length h) later k b
    → IsBeginOfAll l base before (h ∷ later) place b
unfolding value_of
begin_past l base before h later place k b sum rest =
    let over : before + length h < b.serial = rest.over in
    let past : length h ≤ b.serial - before - 1 = omega (arith, over) in
    let past_it : length h ≤ b.serial - before = omega (arith, over) in
    let left : b.serial - before - 1 - length h ≡ b.serial - (before + length h) - 1 = omega (arith, over) in
    let left_it : b.serial - before - length h ≡ b.serial - (before + length h) = omega (arith, over) in
    let next : suc place ≡ length (net_of h) + suc k = omega (arith, sum) in
    record {
      over = omega (arith, over);
      was =
          rw (at_past l base h later _ past, left, rest.was)
          (rw (← run_past l base _ _ place k sum));
      is =
          rw (at_past l base h later _ past_it, left_it, rest.is)
          (rw (← run_past l base _ _ _ _ next));
    }

pub begin_of_all : (l : LayoutParts) (base : Memory) (before : ℕ) (hs : List (List Record)) (place : ℕ)
    (b : Record) (plan : List Item)
    → AreLegal l base before hs → BeginsAt (net_of_all hs) place b plan
    → IsBeginOfAll l base before hs place b
begin_of_all l base before [] place b plan legal at = cc at.here
begin_of_all l base before (h ∷ hs) place b plan legal at = elim (get_append_cases _ _ place b at.here) [
  | inl here ↦ begin_inside l base before h hs place b plan legal.0 (record { here = here; opens = at.opens })
  | inr past ↦
      begin_past l base before h hs place _ b past.sum
      (begin_of_all l (value_of l base h) (before + length h) hs past.place b plan legal.1
      (record { here = past.here; opens = at.opens }))
]
