-- How many schedules there are of a kind, and what the ends say after one schedule more.
use Rattle.std.proofs.Common.{◌≡◌, ℕ, zero, suc, ◌+◌, List, [], ◌∷◌, length, Some, slice_get, set, refl, ap, sym, subst, ◌∙◌, arith, inl, inr}
use Rattle.std.specs.Prelude.{◌⊎◌, sum_by}
use Rattle.std.proofs.lemmas.List.{length-set, get_or-set_other}
use Rattle.std.proofs.lemmas.List.Sums.{sum_by_push, sum_by-set}
use Rattle.std.proofs.lemmas.Option.{slice_get_within, get_or_from_slice_get, slice_get_read}
use Rattle.std.proofs.lemmas.Bool.{cases_eq}
use Rattle.hp_units.proofs.Tables.{get_set as get_set_here}
use Rattle.hp_laws.proofs.Lists.{get_push_cases, get_end}
use Rattle.hp_schedules.specs.declared.tally.Ending.{Ending}
use Rattle.hp_schedules.specs.Ends.{AreCounted}
use Rattle.hp_schedules.specs.Orders.{HasCount, HasMoreThan, IsBefore, IsFirst}
use Rattle.hp_schedules.specs.Notes.{AddsEnd, AddsOne, IsNoted}
use Rattle.hp_schedules.specs.Outcomes.{OutcomeValue}
use Rattle.hp_schedules.proofs.Counting.{either_listed, get_longer, none_listed, same_count, this_listed}
use Rattle.hp_schedules.proofs.Regions.{not_before_itself}

-- ---- lists

-- each place of a list with one item set is that place, or as before
pub get_set_cases : {A : Type 0} (xs : List A) (k : ℕ) (y : A) (j : ℕ) (x : A)
    → slice_get (set xs k y) j ≡ Some x → ((j ≡ k) × (y ≡ x)) ⊎ ((j ≡ k → ⊥) × (slice_get xs j ≡ Some x))
get_set_cases [] zero y j x h = absurd cc
get_set_cases [] (suc k) y j x h = absurd cc
get_set_cases (z ∷ xs) zero y zero x h = inl (refl, cc)
get_set_cases (z ∷ xs) zero y (suc j) x h = inr (λ e. absurd cc, h)
get_set_cases (z ∷ xs) (suc k) y zero x h = inr (λ e. absurd cc, h)
get_set_cases (z ∷ xs) (suc k) y (suc j) x h =
    elim (get_set_cases xs k y j x h)
    [ inl e ↦ inl (ap suc e.0, e.1) | inr e ↦ inr (λ same. e.0 (omega arith), e.1) ]

pub get_set_other : {A : Type 0} (xs : List A) (k : ℕ) (y : A) (j : ℕ) (x : A) → (j ≡ k → ⊥)
    → slice_get xs j ≡ Some x → slice_get (set xs k y) j ≡ Some x
get_set_other xs k y j x differs h =
    slice_get_read (set xs k y) (length (set xs k y)) j x refl (rw length-set (slice_get_within xs j x h))
    (sym (get_or-set_other xs k j y x differs ∙ get_or_from_slice_get xs j x x h))

-- ---- how many there are of a kind

-- one more, that is not of the kind
pub one_more : (P : List ℕ → Type 0) (n : ℕ) (p : List ℕ) → (P p → ⊥) → HasCount P n
    → HasCount (λ s. P s ⊎ (s ≡ p)) (n + 1)
one_more P n p new counted =
    either_listed P (λ s. s ≡ p) n 1 (λ s h same. new (subst P same h)) counted (this_listed p)

-- more than so many: those of a kind and one that is not
pub more_than : (P Q : List ℕ → Type 0) (n : ℕ) (p : List ℕ) → (P p → ⊥) → ((s : List ℕ) → P s → Q s) → Q p
    → HasCount P n → HasMoreThan Q n
more_than P Q n p new to this counted =
    let more = one_more P n p new counted in (
      more.0,
      record {
        each = λ i s h. elim (more.1.each i s h) [ inl old ↦ to s old | inr same ↦ subst Q (sym same) this ];
        once = more.1.once;
      },
      more.2,
    )

-- ---- what the ends say

-- no schedules, and no ends
pub none_counted : (E : List ℕ → OutcomeValue → Type 0) → ((s : List ℕ) (x : OutcomeValue) → E s x → ⊥)
    → AreCounted E []
none_counted E none = record {
  counts = λ k e h. absurd cc;
  firsts = λ k e h. absurd cc;
  every = λ s x h. absurd (none s x h);
  apart = λ i j e f h k same. absurd cc;
  total = none_listed (λ s. (x : OutcomeValue) × E s x) (λ s h. none s h.0 h.1);
}

-- the same schedules in other words
pub same_counted : (E F : List ℕ → OutcomeValue → Type 0) (ends : List Ending)
    → ((s : List ℕ) (x : OutcomeValue) → E s x → F s x) → ((s : List ℕ) (x : OutcomeValue) → F s x → E s x)
    → AreCounted E ends → AreCounted F ends
same_counted E F ends to from ok = record {
  counts =
      λ k e h. same_count (λ s. E s e.outcome) (λ s. F s e.outcome) e.count (λ s. to s e.outcome)
      (λ s. from s e.outcome) (ok.counts k e h);
  firsts = λ k e h. record {
    holds = to e.first.items e.outcome (ok.firsts k e h).holds;
    earliest = λ t f. (ok.firsts k e h).earliest t (from t e.outcome f);
  };
  every = λ s x f. ok.every s x (from s x f);
  apart = ok.apart;
  total =
      same_count (λ s. (x : OutcomeValue) × E s x) (λ s. (x : OutcomeValue) × F s x) _
      (λ s h. (h.0, to s h.0 h.1)) (λ s h. (h.0, from s h.0 h.1)) ok.total;
}

-- the schedules, and one more with its replies
abbrev pub With : (List ℕ → OutcomeValue → Type 0) → List ℕ → OutcomeValue → List ℕ → OutcomeValue → Type 0
With E p x s y = E s y ⊎ ((s ≡ p) × (y ≡ x))

-- the total with one more
total_more : (E : List ℕ → OutcomeValue → Type 0) (p : List ℕ) (x : OutcomeValue) (n : ℕ)
    → ((y : OutcomeValue) → E p y → ⊥) → HasCount (λ s. (y : OutcomeValue) × E s y) n
    → HasCount (λ s. (y : OutcomeValue) × With E p x s y) (n + 1)
total_more E p x n new counted =
    same_count _ (λ s. (y : OutcomeValue) × With E p x s y) _
    (λ s h. elim h [ inl e ↦ (e.0, inl e.1) | inr same ↦ (x, inr (same, refl)) ])
    (λ s h. elim h.1 [ inl e ↦ inl (h.0, e) | inr same ↦ inr same.0 ])
    (one_more _ n p (λ h. new h.0 h.1) counted)

-- an end's count with one more schedule of that end
count_more : (E : List ℕ → OutcomeValue → Type 0) (p : List ℕ) (x y : OutcomeValue) (n : ℕ) → (E p y → ⊥)
    → y ≡ x → HasCount (λ s. E s y) n → HasCount (λ s. With E p x s y) (n + 1)
count_more E p x y n new same counted =
    same_count _ (λ s. With E p x s y) _ (λ s h. elim h [ inl e ↦ inl e | inr at ↦ inr (at, same) ])
    (λ s h. elim h [ inl e ↦ inl e | inr at ↦ inr at.0 ]) (one_more _ n p new counted)

-- an end's count with one more schedule of another end
count_same : (E : List ℕ → OutcomeValue → Type 0) (p : List ℕ) (x y : OutcomeValue) (n : ℕ) → (y ≡ x → ⊥)
    → HasCount (λ s. E s y) n → HasCount (λ s. With E p x s y) n
count_same E p x y n differs counted =
    same_count (λ s. E s y) (λ s. With E p x s y) n (λ s h. inl h)
    (λ s h. elim h [ inl e ↦ e | inr at ↦ absurd (differs at.1) ]) counted

-- the first of an end stays the first with a later schedule
first_same : (E : List ℕ → OutcomeValue → Type 0) (p f : List ℕ) (x y : OutcomeValue)
    → ((s : List ℕ) (z : OutcomeValue) → E s z → IsBefore s p) → IsFirst (λ s. E s y) f
    → IsFirst (λ s. With E p x s y) f
first_same E p f x y before first = record {
  holds = inl first.holds;
  earliest =
      λ t h. elim h
      [ inl e ↦ first.earliest t e | inr at ↦ inr (subst (IsBefore f) (sym at.0) (before f y first.holds)) ];
}

-- an outcome that an end has still has one where an end has another count
pub end_stays : (old : List Ending) (at : ℕ) (entry more : Ending) → slice_get old at ≡ Some entry
    → more.outcome ≡ entry.outcome → (k : ℕ) (e : Ending) (y : OutcomeValue) → slice_get old k ≡ Some e
    → e.outcome ≡ y → (j : ℕ) × (f : Ending) × (slice_get (set old at more) j ≡ Some f) × (f.outcome ≡ y)
end_stays old at entry more here same_outcome k e y h is =
    elim (cases_eq k at) [
      | inl same ↦ (at, more, get_set_here old at more (slice_get_within old at entry here), cc)
      | inr other ↦ (k, e, get_set_other old at more k e other h, is)
    ]

-- one schedule more, whose end is there
noted_again : (E : List ℕ → OutcomeValue → Type 0) (p : List ℕ) (x : OutcomeValue) (old new : List Ending)
    → AreCounted E old → ((s : List ℕ) (y : OutcomeValue) → E s y → IsBefore s p) → AddsOne old x new
    → AreCounted (With E p x) new
noted_again E p x old new ok before adds =
    rw adds.new_is
    (record {
      counts = λ k e h.
          elim (get_set_cases old adds.at adds.more k e h) [
            | inl here ↦
                rw (← here.1, adds.outcome_is, adds.count)
                (count_more E p x adds.entry.outcome adds.entry.count (unseen adds.entry.outcome) adds.same
                (ok.counts adds.at adds.entry adds.here))
            | inr there ↦
                count_same E p x e.outcome e.count
                (λ same. there.0 (ok.apart k adds.at e adds.entry there.1 adds.here (same ∙ sym adds.same)))
                (ok.counts k e there.1)
          ];
      firsts = λ k e h.
          elim (get_set_cases old adds.at adds.more k e h) [
            | inl here ↦
                rw (← here.1, adds.outcome_is, adds.first)
                (first_same E p adds.entry.first.items x adds.entry.outcome before
                (ok.firsts adds.at adds.entry adds.here))
            | inr there ↦ first_same E p e.first.items x e.outcome before (ok.firsts k e there.1)
          ];
      every = λ s y h.
          let stays = end_stays old adds.at adds.entry adds.more adds.here adds.outcome_is in
          elim h [
            | inl old_one ↦ (let at = ok.every s y old_one in stays at.0 at.1 y at.2 at.3)
            | inr new_one ↦ stays adds.at adds.entry y adds.here (adds.same ∙ sym new_one.1)
          ];
      apart = λ i j e f h k same.
          let a = later_at i e h in
          let b = later_at j f k in
          ok.apart i j a.0 b.0 a.1 b.1 (a.2 ∙ (same ∙ sym b.2));
      total = rw sum (total_more E p x (sum_by (λ (e : Ending). e.count) old) unseen ok.total);
    })
  where
    unseen : (y : OutcomeValue) → E p y → ⊥
    unseen y h = not_before_itself p (before p y h)

    later : List Ending
    later = set old adds.at adds.more

    later_at : (k : ℕ) (e : Ending) → slice_get later k ≡ Some e
        → (f : Ending) × (slice_get old k ≡ Some f) × (f.outcome ≡ e.outcome)
    later_at k e h =
        elim (get_set_cases old adds.at adds.more k e h) [
          | inl here ↦ (adds.entry, rw here.0 adds.here, rw (← here.1) (sym adds.outcome_is))
          | inr there ↦ (e, there.1, refl)
        ]

    sum : sum_by (λ (e : Ending). e.count) later ≡ sum_by (λ (e : Ending). e.count) old + 1
    sum =
        omega (
          arith,
          sum_by-set (λ (e : Ending). e.count) old adds.at adds.more adds.entry
              (slice_get_within old adds.at adds.entry adds.here),
          ap (λ (e : Ending). e.count) (get_or_from_slice_get old adds.at adds.entry adds.entry adds.here),
          adds.count,
        )

-- one schedule more, whose end is new
noted_first : (E : List ℕ → OutcomeValue → Type 0) (p : List ℕ) (x : OutcomeValue) (old new : List Ending)
    → AreCounted E old → ((s : List ℕ) (y : OutcomeValue) → E s y → IsBefore s p) → AddsEnd old x p new
    → AreCounted (With E p x) new
noted_first E p x old new ok before adds =
    rw adds.new_is
    (record {
      counts = λ k e h.
          elim (get_push_cases old adds.entry e k h) [
            | inl there ↦
                count_same E p x e.outcome e.count (λ same. adds.none k e there same) (ok.counts k e there)
            | inr here ↦
                rw (← here.1, adds.outcome_is, adds.count)
                (count_more E p x x 0 (unseen x) refl (none_listed (λ s. E s x) fresh))
          ];
      firsts = λ k e h.
          elim (get_push_cases old adds.entry e k h) [
            | inl there ↦ first_same E p e.first.items x e.outcome before (ok.firsts k e there)
            | inr here ↦ rw (← here.1, adds.outcome_is, adds.first) (record {
              holds = inr (refl, refl);
              earliest = λ t h. elim h [ inl e ↦ absurd (fresh t e) | inr at ↦ inl at.0 ];
            })
          ];
      every = λ s y h.
          elim h [
            | inl old_one ↦
                (let at = ok.every s y old_one in
                (at.0, at.1, get_longer old (adds.entry ∷ []) at.0 at.1 at.2, at.3))
            | inr new_one ↦ (length old, adds.entry, get_end old adds.entry, adds.outcome_is ∙ sym new_one.1)
          ];
      apart = λ i j e f h k same.
          elim (get_push_cases old adds.entry e i h) [
            | inl a ↦ elim (get_push_cases old adds.entry f j k) [
              | inl b ↦ ok.apart i j e f a b same
              | inr b ↦ absurd (adds.none i e a cc)
            ]
            | inr a ↦ elim (get_push_cases old adds.entry f j k) [
              | inl b ↦ absurd (adds.none j f b cc)
              | inr b ↦ a.0 ∙ sym b.0
            ]
          ];
      total =
          rw (sum_by_push, adds.count)
          (total_more E p x (sum_by (λ (e : Ending). e.count) old) unseen ok.total);
    })
  where
    unseen : (y : OutcomeValue) → E p y → ⊥
    unseen y h = not_before_itself p (before p y h)

    fresh : (s : List ℕ) → E s x → ⊥
    fresh s h = let at = ok.every s x h in adds.none at.0 at.1 at.2 at.3

-- one schedule more
pub noted : (E : List ℕ → OutcomeValue → Type 0) (p : List ℕ) (x : OutcomeValue) (old new : List Ending)
    → AreCounted E old → ((s : List ℕ) (y : OutcomeValue) → E s y → IsBefore s p) → IsNoted old x p new
    → AreCounted (With E p x) new
noted E p x old new ok before adds =
    elim adds [
      | inl one ↦ noted_again E p x old new ok before one
      | inr first ↦ noted_first E p x old new ok before first
    ]
