-- What ends say of the schedules of a kind after further ends are added.
use Rattle.std.proofs.Common.{◌≡◌, ℕ, ◌+◌, List, [], ◌∷◌, length, Some, slice_get, refl, sym, ◌∙◌, inl, inr, ◌<◌, ◌++◌, set, ap, subst, arith}
use Rattle.std.specs.Prelude.{◌⊎◌, sum_by}
use Rattle.hp_laws.proofs.Lists.{get_push_cases, get_end}
use Rattle.hp_schedules.specs.declared.tally.Ending.{Ending}
use Rattle.hp_schedules.specs.Ends.{AreCounted}
use Rattle.hp_schedules.specs.Outcomes.{OutcomeValue}
use Rattle.hp_schedules.specs.Orders.{HasCount, IsBefore, IsFirst}
use Rattle.hp_schedules.proofs.Counting.{either_listed, get_longer, same_count}
use Rattle.hp_schedules.proofs.Counts.{end_stays, get_set_cases}
use Rattle.hp_schedules.proofs.Regions.{before_before, not_before_itself}
use Rattle.hp_parts.specs.Adding.{AddsEnd, AddsMore, AddsOther, earlier}
use Rattle.hp_parts.proofs.EarlierSchedules.{earlier_of}
use Rattle.std.proofs.lemmas.List.Sums.{sum_by_push, sum_by-set}
use Rattle.std.proofs.lemmas.Option.{slice_get_within, get_or_from_slice_get}
use Rattle.hp_parts.specs.AllParts.{AreApart}

-- ---- outcomes and counts

-- each place of ends with one of them set has an outcome that was there before
was_there : (e : Ending) (old new : List Ending) (adds : AddsMore old e new) (k : ℕ) (f : Ending)
    → slice_get (set old adds.at adds.more) k ≡ Some f
    → (d : Ending) × (slice_get old k ≡ Some d) × (d.outcome ≡ f.outcome)
was_there e old new adds k f h =
    elim (get_set_cases old adds.at adds.more k f h) [
      | inl here ↦ (
        adds.entry,
        subst (λ (n : ℕ). slice_get old n ≡ Some adds.entry) (sym here.0) adds.here,
        sym adds.outcome_is ∙ ap (λ (d : Ending). d.outcome) here.1,
      )
      | inr there ↦ (f, there.1, refl)
    ]

-- no two ends are the same, still
pub apart_more : (e : Ending) (old new : List Ending) (adds : AddsMore old e new) → AreApart old
    → AreApart (set old adds.at adds.more)
apart_more e old new adds ok i j a b h k same =
    let c = was_there e old new adds i a h in
    let d = was_there e old new adds j b k in
    ok i j c.0 d.0 c.1 d.1 (c.2 ∙ (same ∙ sym d.2))

pub apart_other : (e : Ending) (old new : List Ending) (adds : AddsOther old e new) → AreApart old
    → AreApart (old ++ adds.entry ∷ [])
apart_other e old new adds ok i j a b h k same =
    elim (get_push_cases old adds.entry a i h) [
      | inl c ↦ elim (get_push_cases old adds.entry b j k) [
        | inl d ↦ ok i j a b c d same
        | inr d ↦ absurd (adds.none i a c (cc))
      ]
      | inr c ↦ elim (get_push_cases old adds.entry b j k) [
        | inl d ↦ absurd (adds.none j b d (cc))
        | inr d ↦ c.0 ∙ sym d.0
      ]
    ]

pub apart_added : (e : Ending) (old new : List Ending) → AddsEnd old e new → AreApart old → AreApart new
apart_added e old new adds ok =
    elim adds [
      | inl more ↦ subst AreApart (sym more.new_is) (apart_more e old new more ok)
      | inr other ↦ subst AreApart (sym other.new_is) (apart_other e old new other ok)
    ]

-- the counts with one end more
pub sum_more : (e : Ending) (old new : List Ending) (adds : AddsMore old e new)
    → sum_by (λ (f : Ending). f.count) (set old adds.at adds.more)
    ≡ sum_by (λ (f : Ending). f.count) old + e.count
sum_more e old new adds =
    let within : adds.at < length old = slice_get_within old adds.at adds.entry adds.here in
    let read =
    ap (λ (f : Ending). f.count) (get_or_from_slice_get old adds.at adds.entry adds.entry adds.here) in
    omega (
      arith,
      sum_by-set (λ (f : Ending). f.count) old adds.at adds.more adds.entry within,
      read,
      adds.count,
    )

pub sum_other : (e : Ending) (old new : List Ending) (adds : AddsOther old e new)
    → sum_by (λ (f : Ending). f.count) (old ++ adds.entry ∷ [])
    ≡ sum_by (λ (f : Ending). f.count) old + e.count
sum_other e old new adds = rw (sum_by_push (λ (f : Ending). f.count) old adds.entry, adds.count)

pub sum_added : (e : Ending) (old new : List Ending) → AddsEnd old e new
    → sum_by (λ (f : Ending). f.count) new ≡ sum_by (λ (f : Ending). f.count) old + e.count
sum_added e old new adds =
    elim adds [
      | inl more ↦ ap (λ (ends : List Ending). sum_by (λ (f : Ending). f.count) ends) more.new_is
          ∙ sum_more e old new more
      | inr other ↦ ap (λ (ends : List Ending). sum_by (λ (f : Ending). f.count) ends) other.new_is
          ∙ sum_other e old new other
    ]

-- ---- one end

-- schedules of a kind, and those of one outcome more
abbrev pub WithAll : (List ℕ → OutcomeValue → Type 0) → (List ℕ → Type 0) → OutcomeValue → List ℕ
    → OutcomeValue → Type 0
WithAll E P x s y = E s y ⊎ (P s × (y ≡ x))

-- each schedule of the one kind stands before each of the other, or after it
abbrev pub AreBesides : (List ℕ → OutcomeValue → Type 0) → (List ℕ → Type 0) → Type 0
AreBesides E P = (s t : List ℕ) (y : OutcomeValue) → E s y → P t → IsBefore s t ⊎ IsBefore t s

module _ (E : List ℕ → OutcomeValue → Type 0) (P : List ℕ → Type 0) (besides : AreBesides E P) where
  -- so none is of both
  in_neither : (s : List ℕ) (y : OutcomeValue) → E s y → P s → ⊥
  in_neither s y e p =
      elim (besides s s y e p) [ inl h ↦ not_before_itself s h | inr h ↦ not_before_itself s h ]

  -- the total of both
  total_both : (x : OutcomeValue) (m n : ℕ) → HasCount (λ s. (y : OutcomeValue) × E s y) m → HasCount P n
      → HasCount (λ s. (y : OutcomeValue) × WithAll E P x s y) (m + n)
  total_both x m n first second =
      same_count (λ s. ((y : OutcomeValue) × E s y) ⊎ P s) (λ s. (y : OutcomeValue) × WithAll E P x s y)
      (m + n) (λ s h. elim h [ inl e ↦ (e.0, inl e.1) | inr p ↦ (x, inr (p, refl)) ])
      (λ s h. elim h.1 [ inl e ↦ inl (h.0, e) | inr p ↦ inr p.0 ])
      (either_listed (λ s. (y : OutcomeValue) × E s y) P m n (λ s h p. in_neither s h.0 h.1 p) first second)

  -- an end's count with all of the same outcome
  count_both : (x y : OutcomeValue) (m n : ℕ) → y ≡ x → HasCount (λ s. E s y) m → HasCount P n
      → HasCount (λ s. WithAll E P x s y) (m + n)
  count_both x y m n same first second =
      same_count (λ s. E s y ⊎ P s) (λ s. WithAll E P x s y) (m + n)
      (λ s h. elim h [ inl e ↦ inl e | inr p ↦ inr (p, same) ])
      (λ s h. elim h [ inl e ↦ inl e | inr p ↦ inr p.0 ])
      (either_listed (λ s. E s y) P m n (λ s e p. in_neither s y e p) first second)

  -- an end's count with all of another outcome
  count_other : (x y : OutcomeValue) (m : ℕ) → (y ≡ x → ⊥) → HasCount (λ s. E s y) m
      → HasCount (λ s. WithAll E P x s y) m
  count_other x y m differs first =
      same_count (λ s. E s y) (λ s. WithAll E P x s y) m (λ s e. inl e)
      (λ s h. elim h [ inl e ↦ e | inr p ↦ absurd (differs p.1) ]) first

  -- the first of an end stays the first with all of another outcome
  first_other : (x y : OutcomeValue) (f : List ℕ) → (y ≡ x → ⊥) → IsFirst (λ s. E s y) f
      → IsFirst (λ s. WithAll E P x s y) f
  first_other x y f differs first = record {
    holds = inl first.holds;
    earliest = λ t h. elim h [ inl e ↦ first.earliest t e | inr p ↦ absurd (differs p.1) ];
  }

  -- the earlier of two firsts is the first of both
  first_both : (x y : OutcomeValue) (f q : List ℕ) → y ≡ x → IsFirst (λ s. E s y) f → IsFirst P q
      → IsFirst (λ s. WithAll E P x s y) (earlier q f)
  first_both x y f q same first second =
      elim (earlier_of q f
      (elim (besides f q y first.holds second.holds) [ inl a ↦ inr a | inr b ↦ inl b ])) [
        | inl new ↦ rw new.0 (record {
          holds = inr (second.holds, same);
          earliest =
              λ t h. elim h [
                | inl e ↦ inr (past t q f new.1 (first.earliest t e))
                | inr p ↦ second.earliest t p.0
              ];
        })
        | inr old ↦ rw old.0 (record {
          holds = inl first.holds;
          earliest =
              λ t h. elim h [
                | inl e ↦ first.earliest t e
                | inr p ↦ inr (past t f q old.1 (second.earliest t p.0))
              ];
        })
      ]
    where
      past : (t a b : List ℕ) → IsBefore a b → (t ≡ b) ⊎ IsBefore b t → IsBefore a t
      past t a b before h = elim h [ inl is ↦ rw is before | inr later ↦ before_before a b t before later ]

  -- ---- what they say

  -- an end of an outcome that is there
  added_more : (e : Ending) (old new : List Ending) → HasCount P e.count → IsFirst P e.first.items
      → AreCounted E old → AddsMore old e new → AreCounted (WithAll E P e.outcome) new
  added_more e old new many first ok adds = rw adds.new_is (record {
    counts =
        λ k f h. elim (get_set_cases old adds.at adds.more k f h) [
          | inl here ↦
              rw (← here.1, adds.outcome_is, adds.count) (count_both e.outcome adds.entry.outcome
              adds.entry.count e.count adds.same (ok.counts adds.at adds.entry adds.here) many)
          | inr there ↦ count_other e.outcome f.outcome f.count (differs k f there.0 there.1)
              (ok.counts k f there.1)
        ];
    firsts =
        λ k f h. elim (get_set_cases old adds.at adds.more k f h) [
          | inl here ↦
              rw (← here.1, adds.outcome_is, adds.first) (first_both e.outcome adds.entry.outcome
              adds.entry.first.items e.first.items adds.same (ok.firsts adds.at adds.entry adds.here) first)
          | inr there ↦ first_other e.outcome f.outcome f.first.items (differs k f there.0 there.1)
              (ok.firsts k f there.1)
        ];
    every =
        λ s y h.
        let stays = end_stays old adds.at adds.entry adds.more adds.here adds.outcome_is in
        elim h [
          | inl old_one ↦ (let at = ok.every s y old_one in stays at.0 at.1 y at.2 at.3)
          | inr new_one ↦ stays adds.at adds.entry y adds.here (adds.same ∙ sym new_one.1)
        ];
    apart = apart_more e old new adds ok.apart;
    total =
        rw (sum_more e old new adds)
        (total_both e.outcome (sum_by (λ (f : Ending). f.count) old) e.count ok.total many);
  })
    where
      differs : (k : ℕ) (f : Ending) → (k ≡ adds.at → ⊥) → slice_get old k ≡ Some f → f.outcome ≡ e.outcome
          → ⊥
      differs k f other h same = other (ok.apart k adds.at f adds.entry h adds.here (same ∙ sym adds.same))

  -- an end of an outcome that is not
  added_other : (e : Ending) (old new : List Ending) → HasCount P e.count → IsFirst P e.first.items
      → AreCounted E old → AddsOther old e new → AreCounted (WithAll E P e.outcome) new
  added_other e old new many first ok adds = rw adds.new_is (record {
    counts =
        λ k f h. elim (get_push_cases old adds.entry f k h) [
          | inl there ↦ count_other e.outcome f.outcome f.count (adds.none k f there) (ok.counts k f there)
          | inr here ↦
              rw (← here.1, adds.outcome_is, adds.count) (same_count P (λ s. WithAll E P e.outcome s
              e.outcome)
              e.count (λ s p. inr (p, refl))
              (λ s h. elim h [ inl old_one ↦ absurd (fresh s old_one) | inr p ↦ p.0 ]) many)
        ];
    firsts =
        λ k f h. elim (get_push_cases old adds.entry f k h) [
          | inl there ↦
              first_other e.outcome f.outcome f.first.items (adds.none k f there) (ok.firsts k f there)
          | inr here ↦
              rw (← here.1, adds.outcome_is, adds.first) (record {
                holds = inr (first.holds, refl);
                earliest =
                    λ t h. elim h [ inl old_one ↦ absurd (fresh t old_one) | inr p ↦ first.earliest t p.0 ];
              })
        ];
    every =
        λ s y h. elim h [
          | inl old_one ↦
              (let at = ok.every s y old_one in
              (at.0, at.1, get_longer old (adds.entry ∷ []) at.0 at.1 at.2, at.3))
          | inr new_one ↦ (length old, adds.entry, get_end old adds.entry, adds.outcome_is ∙ sym new_one.1)
        ];
    apart = apart_other e old new adds ok.apart;
    total =
        rw (sum_other e old new adds)
        (total_both e.outcome (sum_by (λ (f : Ending). f.count) old) e.count ok.total many);
  })
    where
      fresh : (s : List ℕ) → E s e.outcome → ⊥
      fresh s h = let at = ok.every s e.outcome h in adds.none at.0 at.1 at.2 at.3

  pub added_end : (e : Ending) (old new : List Ending) → HasCount P e.count → IsFirst P e.first.items
      → AreCounted E old → AddsEnd old e new → AreCounted (WithAll E P e.outcome) new
  added_end e old new many first ok adds =
      elim adds [
        | inl more ↦ added_more e old new many first ok more
        | inr other ↦ added_other e old new many first ok other
      ]
