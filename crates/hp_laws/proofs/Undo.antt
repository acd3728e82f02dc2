-- What undo and Cancel leave of a net, and where each prefix of a net comes from.
use Rattle.std.proofs.Common.{◌≡◌, ℕ, zero, suc, ◌+◌, ◌<◌, ◌≤◌, Bool, true, false, cond, List, [], ◌∷◌, ◌++◌, length, take, map, Option, Some, None, slice_get, refl, ap, sym, subst, arith, inl, inr}
use Rattle.std.specs.Prelude.{◌⊎◌, nat_lt, ◌==◌, ◌&&◌}
use Rattle.std.proofs.lemmas.List.{take_all, length-map}
use Rattle.std.proofs.lemmas.Option.{slice_get_within, none-some, same_Some}
use Rattle.std.proofs.lemmas.List.Sums.{sum_by-cons}
use Rattle.std.specs.Option.{option_map}
use Rattle.std.proofs.lemmas.Bool.{cases_lt, cases_Bool, and_parts, and_from, le-leb, lt-leb, lt-ltb, le-ltb}
use Rattle.hp_units.specs.Marks.{sole_at, is_opening, is_work_of, begins, holds_only_own_work, tag_of}
use Rattle.hp_laws.proofs.Names.{Mark, Opens, Tag, Record}
use Rattle.hp_units.specs.History.{Effect, Looks, Undoes, Cancels, Acts, is_refused, steps_until, count_above, cut_or_add, net_with_effect, net_with}
use Rattle.hp_laws.proofs.Net.{Numbered}

-- the steps up to a serial are a beginning, where the serials before the place are at most it and
-- those from there on are above
pub steps_until_at : (s : ℕ) (n : List Record) (k : ℕ) → k ≤ length n
    → ((i : ℕ) (r : Record) → i < k → slice_get n i ≡ Some r → r.serial ≤ s)
    → ((i : ℕ) (r : Record) → k ≤ i → slice_get n i ≡ Some r → s < r.serial)
    → steps_until s n ≡ take k n
unfolding steps_until
steps_until_at s [] zero le low high = refl
steps_until_at s [] (suc k) le low high = absurd (omega arith)
steps_until_at s (r ∷ n) zero le low high =
    rw (lt-leb r.serial s (high zero r (omega arith) refl)) (steps_until_at s n zero (omega arith)
    (λ i x lt e. absurd (omega arith)) (λ i x ge e. high (suc i) x (omega arith) e))
steps_until_at s (r ∷ n) (suc k) le low high =
    rw (le-leb r.serial s (low zero r (omega arith) refl)) (rw (steps_until_at s n k
    (omega arith) (λ i x lt e. low (suc i) x (omega arith) e) (λ i x ge e. high (suc i) x (omega arith) e)))

-- and how many are above it, there
pub count_above_at : (s : ℕ) (n : List Record) (k : ℕ) → k ≤ length n
    → ((i : ℕ) (r : Record) → i < k → slice_get n i ≡ Some r → r.serial ≤ s)
    → ((i : ℕ) (r : Record) → k ≤ i → slice_get n i ≡ Some r → s < r.serial)
    → count_above s n + k ≡ length n
unfolding count_above
count_above_at s [] zero le low high = refl
count_above_at s [] (suc k) le low high = absurd (omega arith)
count_above_at s (r ∷ n) zero le low high =
    let rest =
    count_above_at s n zero (omega arith) (λ i x lt e. absurd (omega arith))
    (λ i x ge e. high (suc i) x (omega arith) e) in
    rw (
      sum_by-cons (λ (x : Record). cond (nat_lt s x.serial) 1 0) r n,
      lt-ltb s r.serial (high zero r (omega arith) refl),
    ) (omega (arith, rest))
count_above_at s (r ∷ n) (suc k) le low high =
    let rest =
    count_above_at s n k (omega arith) (λ i x lt e. low (suc i) x (omega arith) e)
    (λ i x ge e. high (suc i) x (omega arith) e) in
    rw (
      sum_by-cons (λ (x : Record). cond (nat_lt s x.serial) 1 0) r n,
      le-ltb s r.serial (low zero r (omega arith) refl),
    ) (omega (arith, rest))

-- where rising serials first go past s
pub split_place : (before last s : ℕ) (n : List Record) → Numbered before last n
    → (k : ℕ) × (k ≤ length n) × ((i : ℕ) (r : Record) → i < k → slice_get n i ≡ Some r → r.serial ≤ s)
    × ((i : ℕ) (r : Record) → k ≤ i → slice_get n i ≡ Some r → s < r.serial)
split_place before last s [] ok = (zero, omega arith, λ i r lt e. absurd cc, λ i r ge e. absurd cc)
split_place before last s (r ∷ n) ok =
    elim (cases_lt s r.serial) [
      | inl above ↦ (zero, omega arith, λ i x lt e. absurd (omega arith), λ i x ge e. all_above i x e above)
      | inr within ↦ longer within (split_place before last s n (record {
        over = λ i x e. ok.over (suc i) x e;
        under = λ i x e. ok.under (suc i) x e;
        rising = λ i j q x lt e f. ok.rising (suc i) (suc j) q x (omega arith) e f;
      }))
    ]
  where
    all_above : (i : ℕ) (x : Record) → slice_get (r ∷ n) i ≡ Some x → s < r.serial → s < x.serial
    all_above zero x e above = let same : r ≡ x = cc in omega (arith, ap (λ (y : Record). y.serial) same)
    all_above (suc i) x e above = omega (arith, ok.rising zero (suc i) r x (omega arith) refl e)

    longer : r.serial ≤ s
        → (k : ℕ) × (k ≤ length n) × ((i : ℕ) (x : Record) → i < k → slice_get n i ≡ Some x → x.serial ≤ s)
        × ((i : ℕ) (x : Record) → k ≤ i → slice_get n i ≡ Some x → s < x.serial)
        → (k : ℕ) × (k ≤ length (r ∷ n)) × ((i : ℕ) (x : Record) → i < k → slice_get (r ∷ n) i ≡ Some x
        → x.serial ≤ s) × ((i : ℕ) (x : Record) → k ≤ i → slice_get (r ∷ n) i ≡ Some x → s < x.serial)
    longer within p = (suc p.0, omega (arith, p.1), low, high)
      where
        low : (i : ℕ) (x : Record) → i < suc p.0 → slice_get (r ∷ n) i ≡ Some x → x.serial ≤ s
        low zero x lt e = let same : r ≡ x = cc in omega (arith, ap (λ (y : Record). y.serial) same)
        low (suc i) x lt e = p.2 i x (omega arith) e

        high : (i : ℕ) (x : Record) → suc p.0 ≤ i → slice_get (r ∷ n) i ≡ Some x → s < x.serial
        high zero x ge e = absurd (omega arith)
        high (suc i) x ge e = p.3 i x (omega arith) e

-- the steps up to a serial are a beginning, where the serials rise
pub steps_until_is_take : (before last s : ℕ) (n : List Record) → Numbered before last n
    → (k : ℕ) × (k ≤ length n) × (steps_until s n ≡ take k n)
steps_until_is_take before last s n ok =
    let p = split_place before last s n ok in (p.0, p.1, steps_until_at s n p.0 p.1 p.2 p.3)

-- the operation begins at the place, and nothing but its own steps stands after it
pub record IsSole (op : ℕ) (ts : List Tag) (k : ℕ) : Type 0 where
  pub tag : Tag
  pub here : slice_get ts k ≡ Some tag
  pub opens : begins op tag ≡ true
  pub rest : (i : ℕ) (u : Tag) → k < i → slice_get ts i ≡ Some u → is_work_of op u.mark ≡ true

-- where there is only own work, each tag is
only_each : (op : ℕ) (ts : List Tag) → holds_only_own_work op ts ≡ true → (i : ℕ) (u : Tag)
    → slice_get ts i ≡ Some u → is_work_of op u.mark ≡ true
only_each op [] h i u e = absurd cc
only_each op (t ∷ ts) h zero u e =
    let same : t ≡ u = cc in
    rw (← same) (and_parts (is_work_of op t.mark) (holds_only_own_work op ts) h).0
only_each op (t ∷ ts) h (suc i) u e =
    only_each op ts (and_parts (is_work_of op t.mark) (holds_only_own_work op ts) h).1 i u e

-- and where each tag is, there is nothing else
only_from_each : (op : ℕ) (ts : List Tag)
    → ((i : ℕ) (u : Tag) → slice_get ts i ≡ Some u → is_work_of op u.mark ≡ true)
    → holds_only_own_work op ts ≡ true
only_from_each op [] each = refl
only_from_each op (t ∷ ts) each =
    and_from (is_work_of op t.mark) (holds_only_own_work op ts) (each zero t refl)
    (only_from_each op ts (λ i u e. each (suc i) u e))

-- no Begin is an operation's own work
pub no_opening_works : (op : ℕ) (m : Mark) → is_opening m ≡ true → is_work_of op m ≡ true → ⊥
no_opening_works op Opens a b = cc
no_opening_works op _ a b = cc

-- the place that is found is sole
pub sole_sound : (op : ℕ) (ts : List Tag) (k : ℕ) → sole_at op ts ≡ Some k → IsSole op ts k
unfolding sole_at
sole_sound op [] k e = absurd cc
sole_sound op (t ∷ ts) k e =
    by_test (sole_sound op ts) (begins op t && holds_only_own_work op ts) refl (sole_at op ts) refl
  where
    by_test : ((j : ℕ) → sole_at op ts ≡ Some j → IsSole op ts j) → (b : Bool)
        → (begins op t && holds_only_own_work op ts) ≡ b → (o : Option ℕ) → sole_at op ts ≡ o
        → IsSole op (t ∷ ts) k
    by_test ih true is o found =
        let first : k ≡ zero = cc in
        let parts = and_parts (begins op t) (holds_only_own_work op ts) is in
        rw first (record { tag = t; here = refl; opens = parts.0; rest = λ i u lt f. at_rest i u lt f })
      where
        at_rest : (i : ℕ) (u : Tag) → zero < i → slice_get (t ∷ ts) i ≡ Some u → is_work_of op u.mark ≡ true
        at_rest zero u lt f = absurd (omega arith)
        at_rest (suc i) u lt f =
            only_each op ts (and_parts (begins op t) (holds_only_own_work op ts) is).1 i u f
    by_test ih false is None found = absurd (none-some k (rw (is, found) at e))
    by_test ih false is (Some j) found =
        let next : suc j ≡ k = cc in
        let deep = ih j found in
        rw (← next) (record {
          tag = deep.tag;
          here = deep.here;
          opens = deep.opens;
          rest = at_rest deep;
        })
      where
        at_rest : IsSole op ts j → (i : ℕ) (u : Tag) → suc j < i → slice_get (t ∷ ts) i ≡ Some u
            → is_work_of op u.mark ≡ true
        at_rest deep zero u lt f = absurd (omega arith)
        at_rest deep (suc i) u lt f = deep.rest i u (omega arith) f

-- a place that is sole is found
pub sole_complete : (op : ℕ) (ts : List Tag) (k : ℕ) → IsSole op ts k → sole_at op ts ≡ Some k
unfolding sole_at
sole_complete op [] k is = absurd (none-some is.tag is.here)
sole_complete op (t ∷ ts) zero is =
    let only : holds_only_own_work op ts ≡ true =
    only_from_each op ts (λ i u e. is.rest (suc i) u (omega arith) e) in
    rw (subst (λ (x : Tag). begins op x ≡ true) (sym (same_Some t is.tag is.here)) is.opens, only) refl
sole_complete op (t ∷ ts) (suc k) is =
    by_test (sole_complete op ts k) (begins op t && holds_only_own_work op ts) refl
  where
    by_test : (IsSole op ts k → sole_at op ts ≡ Some k) → (b : Bool)
        → (begins op t && holds_only_own_work op ts) ≡ b
        → cond b (Some 0) (option_map suc (sole_at op ts)) ≡ Some (suc k)
    by_test ih true test =
        let parts = and_parts (begins op t) (holds_only_own_work op ts) test in
        let opening = (and_parts (is_opening is.tag.mark) (is.tag.serial == op) is.opens).0 in
        absurd (no_opening_works op is.tag.mark opening (only_each op ts parts.1 k is.tag is.here))
    by_test ih false test =
        rw (ih (record {
          tag = is.tag;
          here = is.here;
          opens = is.opens;
          rest = λ i u lt e. is.rest (suc i) u (omega arith) e;
        }))
        refl

-- where no place is sole, none is found
pub sole_none : (op : ℕ) (ts : List Tag) → ((k : ℕ) → IsSole op ts k → ⊥) → sole_at op ts ≡ None
sole_none op ts never = by_place (sole_at op ts) refl
  where
    by_place : (o : Option ℕ) → sole_at op ts ≡ o → sole_at op ts ≡ None
    by_place None e = e
    by_place (Some k) e = absurd (never k (sole_sound op ts k e))

-- a place that is found lies in the net
pub sole_within : (op : ℕ) (n : List Record) (k : ℕ) → sole_at op (map tag_of n) ≡ Some k → k < length n
sole_within op n k e =
    let is = sole_sound op _ k e in
    omega (arith, slice_get_within (map tag_of n) k is.tag is.here, length-map n tag_of)

-- what one more record makes of the net: a beginning of it, or one step more
pub net_cases : (before last : ℕ) (n : List Record) (r : Record) → Numbered before last n
    → ((k : ℕ) × (k ≤ length n) × (net_with n r ≡ take k n)) ⊎ (net_with n r ≡ n ++ r ∷ [])
unfolding net_with
net_cases before last n r ok =
    elim (cases_Bool (is_refused r.reply)) [
      | inl bad ↦ rw bad (inl (length n, omega arith, sym (take_all _ n (omega arith))))
      | inr good ↦ rw good (by_kind _)
    ]
  where
    by_place : (o : Option ℕ) → ((k : ℕ) → o ≡ Some k → k < length n)
        → ((k : ℕ) × (k ≤ length n) × (cut_or_add n r o ≡ take k n)) ⊎ (cut_or_add n r o ≡ n ++ r ∷ [])
    by_place None within = inr refl
    by_place (Some k) within = (let lt = within k refl in inl (k, omega arith, refl))

    by_kind : (kind : Effect)
        → ((k : ℕ) × (k ≤ length n) × (net_with_effect n r kind ≡ take k n))
        ⊎ (net_with_effect n r kind ≡ n ++ r ∷ [])
    by_kind Looks = inl (length n, omega arith, sym (take_all _ n (omega arith)))
    by_kind (Undoes s) = inl (steps_until_is_take before last s n ok)
    by_kind (Cancels op) = by_place (sole_at op (map tag_of n)) (sole_within op n)
    by_kind Acts = inr refl
