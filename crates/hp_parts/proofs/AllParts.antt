-- The ends of all parts together are those of all complete schedules.
use Rattle.std.proofs.Common.{◌≡◌, ℕ, suc, ◌+◌, ◌*◌, ◌%◌, ◌<◌, ◌≤◌, List, [], ◌∷◌, length, take, Some, slice_get, refl, ap, arith, inl, inr, map, get_or, Option, None, sym, ◌∙◌}
use Rattle.std.specs.Prelude.{◌⊎◌, fold, IfSome, option_map}
use Rattle.std.specs.Cmp.Lexicographic.{slice_cmp, nat_list_cmp_total}
use Rattle.std.specs.Ordering.{is_lt, nat_cmp}
use Rattle.std.proofs.lemmas.Bool.{cases_lt}
use Rattle.std.proofs.lemmas.List.Sorted.{ranks_by, sorted_far}
use Rattle.std.proofs.lemmas.Option.{get_or_from_slice_get, slice_get_within, same_Some, slice_get-map}
use Rattle.hp_schedules.specs.declared.tally.Ending.{Ending}
use Rattle.hp_schedules.specs.Ends.{AreCounted, AreInOrder}
use Rattle.hp_schedules.specs.Orders.{IsBefore}
use Rattle.hp_schedules.specs.Outcomes.{OutcomeValue}
use Rattle.hp_schedules.specs.Parts.{EndsInPart, part_number}
use Rattle.hp_schedules.specs.Schedules.{EndsWith, Setting}
use Rattle.hp_schedules.proofs.Counts.{none_counted, same_counted}
use Rattle.hp_parts.specs.Adding.{AddsEnds, AddsLists, AreSorted}
use Rattle.hp_parts.specs.AllParts.{AreParts, HaveRoom, part}
use Rattle.hp_parts.proofs.EarlierSchedules.{before_less, compared}
use Rattle.hp_parts.proofs.Joining.{joined}
use Rattle.hp_parts.proofs.Moved.{counted_moved}
use Rattle.std.proofs.lemmas.List.{length-map}
use Rattle.hp_laws.proofs.Lists.{get_some}
use Rattle.hp_explore.specs.Faults.{FillsHistory, FillsPart}

-- ---- each schedule is of one part

number_from : (processors of n : ℕ) (s : List ℕ) → n < of
    → fold (λ m cpu. (m * processors + cpu) % of) n s < of
number_from processors of n [] less = less
number_from processors of n (cpu ∷ s) less =
    number_from processors of ((n * processors + cpu) % of) s
    (let some : 0 < of = omega arith in omega arith)

pub number_below : (processors of : ℕ) (s : List ℕ) → 0 < of → part_number processors of s < of
number_below processors of s some = number_from processors of 0 s some

-- ---- one part after another

-- a schedule of a part below a number is complete, with this outcome
abbrev pub EndsBelow : Setting → (of calls below : ℕ) → List ℕ → OutcomeValue → Type 0
EndsBelow g of calls below s x =
    EndsWith g s x × (part_number (length g.scripts) of (take calls s) < below)

-- those of one part more
pub part_added : (g : Setting) (of calls k : ℕ) (old ends new : List Ending)
    → AreCounted (EndsBelow g of calls k) old
    → AreCounted (EndsInPart g (record { index = k; of = of; calls = calls })) ends → AddsEnds old ends new
    → AreCounted (EndsBelow g of calls (k + 1)) new
part_added g of calls k old ends new first second adds =
    same_counted (λ s x. EndsBelow g of calls k s x ⊎ In s x) (EndsBelow g of calls (k + 1)) new
    (λ s x h. elim h [
      | inl below ↦ (below.0, (let less = below.1 in omega arith))
      | inr here ↦ (here.0, (let is = here.1 in omega arith))
    ])
    (λ s x h. elim (cases_lt (part_number (length g.scripts) of (take calls s)) k) [
      | inl less ↦ inl (h.0, less)
      | inr more ↦ inr (h.0, (let less = h.1 in omega arith))
    ])
    (joined (EndsBelow g of calls k) In
    (λ s t x y below here. elim (compared g s t x y below.0 here.0) [
      | inl same ↦
          absurd (let less = below.1 in
          let is = here.1 in
          let one = ap (λ (u : List ℕ). part_number (length g.scripts) of (take calls u)) same.0 in omega
          arith)
      | inr other ↦ other
    ])
    (λ s t x y differs a b. elim (compared g s t x y a.0 b.0) [
      | inl same ↦ absurd (differs same.1)
      | inr other ↦ other
    ])
    old ends new first second adds)
  where
    In : List ℕ → OutcomeValue → Type 0
    In = EndsInPart g (record { index = k; of = of; calls = calls })

-- those of several more
lists_added : (g : Setting) (of calls k : ℕ) (lists : List (List Ending)) (old new : List Ending)
    → ((j : ℕ) (ends : List Ending) → slice_get lists j ≡ Some ends
    → AreCounted (EndsInPart g (record { index = k + j; of = of; calls = calls })) ends)
    → AreCounted (EndsBelow g of calls k) old → AddsLists old lists new
    → AreCounted (EndsBelow g of calls (k + length lists)) new
lists_added g of calls k [] old new each ok adds =
    rw adds (let e : k ≡ k + 0 = omega arith in rw e at ok)
lists_added g of calls k (ends ∷ lists) old new each ok adds =
    let all : k + suc (length lists) ≡ (k + 1) + length lists = omega arith in
    let here : k + 0 ≡ k = omega arith in
    rw all (lists_added g of calls (k + 1) lists adds.0 new rest
    (part_added g of calls k old ends adds.0 ok (rw here at (each 0 ends refl)) adds.1) adds.2)
  where
    rest : (j : ℕ) (more : List Ending) → slice_get lists j ≡ Some more
        → AreCounted (EndsInPart g (record { index = (k + 1) + j; of = of; calls = calls })) more
    rest j more h = let e : (k + 1) + j ≡ k + suc j = omega arith in rw e (each (suc j) more h)

-- those of all
pub all_below : (g : Setting) (of calls : ℕ) (ends : List Ending) → 0 < of
    → AreCounted (EndsBelow g of calls of) ends → AreCounted (EndsWith g) ends
all_below g of calls ends some ok =
    same_counted (EndsBelow g of calls of) (EndsWith g) ends (λ s x h. h.0)
    (λ s x h. (h, number_below (length g.scripts) of (take calls s) some)) ok

pub all_added : (g : Setting) (calls : ℕ) (lists : List (List Ending)) (new : List Ending) → 0 < length lists
    → AreParts g calls lists → AddsLists [] lists new → AreCounted (EndsWith g) new
all_added g calls lists new some parts adds =
    let none : 0 + length lists ≡ length lists = omega arith in
    all_below g (length lists) calls new some (rw none at (lists_added g (length lists) calls 0 lists [] new
    (λ j ends h. let e : 0 + j ≡ j = omega arith in rw e (parts j ends h))
    (none_counted (EndsBelow g (length lists) calls 0) (λ s x h. let below = h.1 in omega arith)) adds))

-- ---- their order

-- ends by their first schedules are in order
pub sorted_in_order : (g : Setting) (old new : List Ending) → AreSorted old new → AreCounted (EndsWith g) new
    → AreInOrder new
sorted_in_order g old new moved ok i j e f less h k =
    elim (compared g e.first.items f.first.items e.outcome f.outcome (ok.firsts i e h).holds
    (ok.firsts j f k).holds) [
      | inl same ↦ absurd (let one = ok.apart i j e f h k same.1 in omega arith)
      | inr sides ↦ elim sides [ inl before ↦ before | inr after ↦ absurd (wrong after) ]
    ]
  where
    wrong : IsBefore f.first.items e.first.items → ⊥
    wrong after =
        let far =
        sorted_far (λ (a b : Ending). is_lt (slice_cmp nat_cmp a.first.items b.first.items))
        (ranks_by nat_list_cmp_total (λ (a : Ending). a.first.items)) new moved.sorted i j e
        (let le : i ≤ j = omega arith in le) (slice_get_within new j f k) in
        let no = rw (get_or_from_slice_get new j f e k, get_or_from_slice_get new i e e h) at far in
        let is = ap is_lt (before_less f.first.items e.first.items after) in cc

pub all_sorted : (g : Setting) (old new : List Ending) → AreSorted old new → AreCounted (EndsWith g) old
    → AreCounted (EndsWith g) new
all_sorted g old new moved ok = counted_moved (EndsWith g) old new moved.moved ok

-- ---- what a search of each part found

-- where the history has room for each call of each part, it has room for all
pub room_for_all : (g : Setting) (of calls : ℕ) → 0 < of → HaveRoom g of calls → FillsHistory g → ⊥
room_for_all g of calls some room fills =
    let first = take calls fills.0 in
    room (part_number (length g.scripts) of first) (number_below (length g.scripts) of first some)
    (fills.0, fills.1, inr refl)

-- at the place of a list what was found is that list
found_at : {V : Type 0} (found : List (Option V)) (lists : List V) → found ≡ map (λ v. Some v) lists → (k : ℕ)
    (v : V) → slice_get lists k ≡ Some v → get_or found k None ≡ Some v
found_at {V} found lists is k v h =
    ap (λ (os : List (Option V)). get_or os k None) is
    ∙ get_or_from_slice_get (map (λ (w : V). Some w) lists) k (Some v) None
    (slice_get-map (λ (w : V). Some w) lists k ∙ ap (option_map (λ (w : V). Some w)) h)

-- there is a list at each place
list_at : {V : Type 0} (found : List (Option V)) (lists : List V) (of k : ℕ) → found ≡ map (λ v. Some v) lists
    → length found ≡ of → k < of → (v : V) × (get_or found k None ≡ Some v)
list_at {V} found lists of k is many less =
    let at = get_some lists k (omega (arith, less, many, long, length-map lists (λ (w : V). Some w))) in
    (at.0, found_at found lists is k at.0 at.1)
  where
    long : length found ≡ length (map (λ (w : V). Some w) lists)
    long = ap (λ (os : List (Option V)). length os) is

-- the history has room for the calls of each part
pub room_found : {V : Type 0} (g : Setting) (of calls : ℕ) (found : List (Option V)) (lists : List V)
    → found ≡ map (λ v. Some v) lists → length found ≡ of
    → ((k : ℕ) → k < of → IfSome (get_or found k None) (λ _. FillsPart g (part of calls k) → ⊥))
    → HaveRoom g of calls
room_found {V} g of calls found lists is many each k less =
    let at = list_at found lists of k is many less in
    rw at.1 at (each k less)

-- the ends of each part are the list at its place
pub parts_found : {V : Type 0} (items : V → List Ending) (g : Setting) (of calls : ℕ)
    (found : List (Option V)) (lists : List V) → found ≡ map (λ v. Some v) lists → length found ≡ of
    → ((k : ℕ) → k < of → IfSome (get_or found k None)
    (λ v. AreCounted (EndsInPart g (part of calls k)) (items v)))
    → AreParts g calls (map items lists)
parts_found {V} items g of calls found lists is many each k ends h =
    let at = read (slice_get lists k) (sym (slice_get-map items lists k) ∙ h) in
    rw (long, ← at.1) (rw (found_at found lists is k at.0 at.2) at (each k (within at.0 at.2)))
  where
    long : length (map items lists) ≡ of
    long =
        length-map lists items
        ∙ (sym (length-map lists (λ (v : V). Some v))
        ∙ (sym (ap (λ (os : List (Option V)). length os) is) ∙ many))

    read : (o : Option V) → option_map items o ≡ Some ends → (v : V) × (items v ≡ ends) × (o ≡ Some v)
    read None e = absurd cc
    read (Some v) e = (v, same_Some (items v) ends e, refl)

    within : (v : V) → slice_get lists k ≡ Some v → k < of
    within v there =
        let less = slice_get_within lists k v there in
        omega (arith, less, long, length-map lists items)
