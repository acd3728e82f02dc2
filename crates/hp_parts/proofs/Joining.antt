-- The ends of two kinds of schedules together, and what is left of a room for them.
use Rattle.std.proofs.Common.{◌≡◌, ℕ, zero, suc, ◌+◌, List, [], ◌∷◌, ◌++◌, Some, slice_get, refl, ap, sym, subst, ◌∙◌, arith, inl, inr, ◌-◌, ◌<◌, ◌≤◌, Global, Vec, length, map, get_or, take}
use Rattle.std.specs.Prelude.{◌⊎◌, sum_by}
use Rattle.std.proofs.lemmas.List.Sums.{sum_by-cons, sum_by_more, sum_by_more_le}
use Rattle.hp_schedules.specs.declared.tally.Ending.{Ending}
use Rattle.hp_schedules.specs.Ends.{AreCounted}
use Rattle.hp_schedules.specs.Outcomes.{OutcomeValue}
use Rattle.hp_schedules.specs.Orders.{HasCount, IsBefore, IsFirst}
use Rattle.hp_schedules.proofs.Counts.{same_counted}
use Rattle.hp_parts.specs.Adding.{AddsEnd, AddsEnds, AddsLists, counted_by}
use Rattle.hp_parts.specs.AllParts.{AreApart}
use Rattle.hp_parts.proofs.Adding.{WithAll, added_end, apart_added, sum_added}
use Rattle.std.proofs.lemmas.List.{map-append, take_all, take_more}

-- ---- one end after another

pub adds_push : (old ends : List Ending) (e : Ending) (mid new : List Ending) → AddsEnds old ends mid
    → AddsEnd mid e new → AddsEnds old (ends ++ e ∷ []) new
adds_push old [] e mid new before last =
    (new, rw before at last, refl)
adds_push old (f ∷ ends) e mid new before last =
    (before.0, before.1, adds_push before.0 ends e mid new before.2 last)

pub lists_push : (old : List Ending) (lists : List (List Ending)) (ends mid new : List Ending)
    → AddsLists old lists mid → AddsEnds mid ends new → AddsLists old (lists ++ ends ∷ []) new
lists_push old [] ends mid new before last =
    (new, rw before at last, refl)
lists_push old (more ∷ lists) ends mid new before last =
    (before.0, before.1, lists_push before.0 lists ends mid new before.2 last)

-- the counts add up
pub ends_sum : (old ends new : List Ending) → AddsEnds old ends new
    → sum_by (λ (e : Ending). e.count) new
    ≡ sum_by (λ (e : Ending). e.count) old + sum_by (λ (e : Ending). e.count) ends
ends_sum old [] new adds =
    let same = ap (λ (ends : List Ending). sum_by (λ (e : Ending). e.count) ends) adds in omega arith
ends_sum old (e ∷ ends) new adds =
    omega (arith, ends_sum adds.0 ends new adds.2, sum_added e old adds.0 adds.1, sum_by-cons)

pub lists_sum : (old : List Ending) (lists : List (List Ending)) (new : List Ending) → AddsLists old lists new
    → sum_by (λ (e : Ending). e.count) new ≡ sum_by (λ (e : Ending). e.count) old + counted_by lists
lists_sum old [] new adds =
    let same = ap (λ (ends : List Ending). sum_by (λ (e : Ending). e.count) ends) adds in omega arith
lists_sum old (ends ∷ lists) new adds =
    omega (arith, lists_sum adds.0 lists new adds.2, ends_sum old ends adds.0 adds.1, sum_by-cons)

-- no two ends are the same
ends_apart : (old ends new : List Ending) → AddsEnds old ends new → AreApart old → AreApart new
ends_apart old [] new adds ok = rw adds ok
ends_apart old (e ∷ ends) new adds ok = ends_apart adds.0 ends new adds.2 (apart_added e old adds.0 adds.1 ok)

pub lists_apart : (old : List Ending) (lists : List (List Ending)) (new : List Ending)
    → AddsLists old lists new → AreApart old → AreApart new
lists_apart old [] new adds ok = subst AreApart (sym adds) ok
lists_apart old (ends ∷ lists) new adds ok =
    lists_apart adds.0 lists new adds.2 (ends_apart old ends adds.0 adds.1 ok)

-- ---- what they say

-- schedules of a kind, and those of another whose outcomes are among some
abbrev WithSome : (E F : List ℕ → OutcomeValue → Type 0) → (OutcomeValue → Type 0) → List ℕ → OutcomeValue
    → Type 0
WithSome E F D s x = E s x ⊎ (F s x × D x)

abbrev IsAmong : List Ending → OutcomeValue → Type 0
IsAmong ends x = (k : ℕ) × (e : Ending) × (slice_get ends k ≡ Some e) × (e.outcome ≡ x)

-- what ends say of the schedules of a kind that end so
record AreSaid (F : List ℕ → OutcomeValue → Type 0) (ends : List Ending) : Type 0 where
  counts : (k : ℕ) (e : Ending) → slice_get ends k ≡ Some e → HasCount (λ s. F s e.outcome) e.count
  firsts : (k : ℕ) (e : Ending) → slice_get ends k ≡ Some e → IsFirst (λ s. F s e.outcome) e.first.items
  apart : AreApart ends

-- two schedules, each of its kind, do not go on from one another
abbrev pub AreBeside : (E F : List ℕ → OutcomeValue → Type 0) → Type 0
AreBeside E F =
    (s t : List ℕ) (x y : OutcomeValue) → E s x → F t y → IsBefore s t ⊎ IsBefore t s

-- nor do two of one kind with other outcomes
abbrev pub AreSpread : (F : List ℕ → OutcomeValue → Type 0) → Type 0
AreSpread F =
    (s t : List ℕ) (x y : OutcomeValue) → (x ≡ y → ⊥) → F s x → F t y → IsBefore s t ⊎ IsBefore t s

module _ (E F : List ℕ → OutcomeValue → Type 0) (beside : AreBeside E F) (spread : AreSpread F) where
  added_ends : (D : OutcomeValue → Type 0) (old ends new : List Ending) → AreSaid F ends
      → ((k : ℕ) (e : Ending) → slice_get ends k ≡ Some e → D e.outcome → ⊥)
      → AreCounted (WithSome E F D) old → AddsEnds old ends new
      → AreCounted (WithSome E F (λ x. D x ⊎ IsAmong ends x)) new
  added_ends D old [] new said others ok adds =
      rw adds (same_counted (WithSome E F D) (WithSome E F (λ x. D x ⊎ IsAmong [] x)) old
      (λ s x h. elim h [ inl e ↦ inl e | inr f ↦ inr (f.0, inl f.1) ])
      (λ s x h. elim h [
        | inl e ↦ inl e
        | inr f ↦ elim f.1 [ inl d ↦ inr (f.0, d) | inr at ↦ absurd (let wrong = at.2 in cc) ]
      ])
      ok)
  added_ends D old (e ∷ ends) new said others ok adds =
      same_counted (WithSome E F (λ x. (D x ⊎ (x ≡ e.outcome)) ⊎ IsAmong ends x))
      (WithSome E F (λ x. D x ⊎ IsAmong (e ∷ ends) x)) new
      (λ s x h. elim h [
        | inl a ↦ inl a
        | inr f ↦ elim f.1 [
          | inl first ↦ elim first [
            | inl d ↦ inr (f.0, inl d)
            | inr same ↦ inr (f.0, inr (0, e, refl, sym same))
          ]
          | inr at ↦ inr (f.0, inr (suc at.0, at.1, at.2, at.3))
        ]
      ])
      (λ s x h. elim h [
        | inl a ↦ inl a
        | inr f ↦ elim f.1 [
          | inl d ↦ inr (f.0, inl (inl d))
          | inr at ↦ inr (f.0, by_place x at.0 at.1 at.2 at.3)
        ]
      ])
      (added_ends (λ x. D x ⊎ (x ≡ e.outcome)) adds.0 ends new rest others_on here adds.2)
    where
      here : AreCounted (WithSome E F (λ x. D x ⊎ (x ≡ e.outcome))) adds.0
      here =
          same_counted (WithAll (WithSome E F D) (λ s. F s e.outcome) e.outcome)
          (WithSome E F (λ x. D x ⊎ (x ≡ e.outcome))) adds.0
          (λ s x h. elim h [
            | inl before ↦ elim before [ inl a ↦ inl a | inr f ↦ inr (f.0, inl f.1) ]
            | inr now ↦ inr (rw now.1 now.0, inr now.1)
          ])
          (λ s x h. elim h [
            | inl a ↦ inl (inl a)
            | inr f ↦ elim f.1 [
              | inl d ↦ inl (inr (f.0, d))
              | inr same ↦ inr (rw same at f.0, same)
            ]
          ])
          (added_end (WithSome E F D) (λ s. F s e.outcome)
          (λ s t y h f. elim h [
            | inl old_one ↦ beside s t y e.outcome old_one f
            | inr new_one ↦ spread s t y e.outcome (λ same. others 0 e refl (rw same at new_one.1)) new_one.0
                f
          ])
          e old adds.0 (said.counts 0 e refl) (said.firsts 0 e refl) ok adds.1)

      rest : AreSaid F ends
      rest = record {
        counts = λ k f h. said.counts (suc k) f h;
        firsts = λ k f h. said.firsts (suc k) f h;
        apart = λ i j a b h k same. let next = said.apart (suc i) (suc j) a b h k same in omega arith;
      }

      others_on : (k : ℕ) (f : Ending) → slice_get ends k ≡ Some f → D f.outcome ⊎ (f.outcome ≡ e.outcome)
          → ⊥
      others_on k f h before =
          elim before [
            | inl d ↦ others (suc k) f h d
            | inr same ↦ absurd (let at = said.apart (suc k) 0 f e h refl same in omega arith)
          ]

      by_place : (x : OutcomeValue) (k : ℕ) (f : Ending) → slice_get (e ∷ ends) k ≡ Some f → f.outcome ≡ x
          → (D x ⊎ (x ≡ e.outcome)) ⊎ IsAmong ends x
      by_place x zero f h is =
          inl (inr (sym is ∙ (let same : f ≡ e = cc in ap (λ (d : Ending). d.outcome) same)))
      by_place x (suc k) f h is = inr (k, f, h, is)

  -- the schedules of both kinds
  pub joined : (old ends new : List Ending) → AreCounted E old → AreCounted F ends → AddsEnds old ends new
      → AreCounted (λ s x. E s x ⊎ F s x) new
  joined old ends new first second adds =
      same_counted (WithSome E F (λ x. ⊥ ⊎ IsAmong ends x)) (λ s x. E s x ⊎ F s x) new
      (λ s x h. elim h [ inl e ↦ inl e | inr f ↦ inr f.0 ])
      (λ s x h. elim h [ inl e ↦ inl e | inr f ↦ inr (f, inr (second.every s x f)) ])
      (added_ends (λ x. ⊥) old ends new
      (record { counts = second.counts; firsts = second.firsts; apart = second.apart }) (λ k e h none. none)
      (same_counted E (WithSome E F (λ x. ⊥)) old (λ s x e. inl e)
      (λ s x h. elim h [ inl e ↦ e | inr f ↦ absurd f.1 ]) first) adds)

-- ---- sums over lists

sum_mapped : {X Y : Type 0} (f : Y → ℕ) (g : X → Y) (xs : List X)
    → sum_by f (map g xs) ≡ sum_by (λ x. f (g x)) xs
sum_mapped f g [] = refl
sum_mapped f g (x ∷ xs) =
    omega (
      arith,
      sum_by-cons f (g x) (map g xs),
      sum_by-cons (λ y. f (g y)) x xs,
      sum_mapped f g xs,
    )

-- the ends that a vector holds
abbrev pub items : Vec Ending Global → List Ending
items v = v.items

-- ---- a room

pub left_more : {X : Type 0} (f : X → ℕ) (xs : List X) (room left less at : ℕ) (x : X) → at < length xs
    → left + sum_by f (take at xs) ≡ room → f x ≤ left → less ≡ left - f x → x ≡ get_or xs at x
    → less + sum_by f (take (at + 1) xs) ≡ room
left_more f xs room left less at x within so_far fits is here = grind (arith, sum_by_more)

pub none_left : {X : Type 0} (f : X → ℕ) (xs : List X) (room left at : ℕ) (x : X) → at < length xs
    → left + sum_by f (take at xs) ≡ room → (f x ≤ left → ⊥) → x ≡ get_or xs at x → room < sum_by f xs
none_left f xs room left at x within so_far over here = grind (arith, sum_by_more_le)

pub all_left : {X : Type 0} (f : X → ℕ) (xs : List X) (room left at : ℕ) → length xs ≤ at
    → left + sum_by f (take at xs) ≡ room → sum_by f xs + left ≡ room
all_left f xs room left at past so_far = grind (arith, take_all)

-- how many schedules lists count, each taken as its ends
abbrev pub counted_in : {X : Type 0} → (X → List Ending) → X → ℕ
counted_in items x = sum_by (λ (e : Ending). e.count) (items x)

pub counted_mapped : {X : Type 0} (items : X → List Ending) (lists : List X)
    → counted_by (map items lists) ≡ sum_by (counted_in items) lists
counted_mapped items lists = grind (arith, sum_mapped)

-- ---- one more

pub ends_more : (old ends mid new : List Ending) (at : ℕ) (e : Ending) → at < length ends
    → e ≡ get_or ends at e → AddsEnds old (take at ends) mid → AddsEnd mid e new
    → AddsEnds old (take (at + 1) ends) new
ends_more old ends mid new at e within here before last =
    rw (take_more ends at e within, ← here) (adds_push old (take at ends) e mid new before last)

pub ends_room : (old ends mid : List Ending) (at bound : ℕ) (e : Ending) → at < length ends
    → e ≡ get_or ends at e → AddsEnds old (take at ends) mid
    → sum_by (λ (f : Ending). f.count) old + sum_by (λ (f : Ending). f.count) ends < bound
    → sum_by (λ (f : Ending). f.count) mid + e.count < bound
ends_room old ends mid at bound e within here before room =
    grind (arith, ends_sum, sum_by_more_le)

pub lists_more : {X : Type 0} (items : X → List Ending) (lists : List X) (old mid new : List Ending) (at : ℕ)
    (x : X) → at < length lists → x ≡ get_or lists at x → AddsLists old (map items (take at lists)) mid
    → AddsEnds mid (items x) new → AddsLists old (map items (take (at + 1) lists)) new
lists_more {X} items lists old mid new at x within here before last =
    rw (take_more lists at x within, ← here, map-append items (take at lists) (x ∷ [])) (lists_push old
    (map items (take at lists)) (items x) mid new before last)

pub lists_room : {X : Type 0} (items : X → List Ending) (lists : List X) (old mid : List Ending)
    (at bound : ℕ)
    (x : X) → at < length lists → x ≡ get_or lists at x → AddsLists old (map items (take at lists)) mid
    → sum_by (λ (f : Ending). f.count) old + counted_by (map items lists) < bound
    → sum_by (λ (f : Ending). f.count) mid + sum_by (λ (f : Ending). f.count) (items x) < bound
lists_room items lists old mid at bound x within here before room =
    grind (arith, counted_mapped, lists_sum, sum_by_more_le)
