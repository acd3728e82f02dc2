-- Each prefix of a net is the net of a beginning of the history, and an undo leads to it.
use Rattle.std.proofs.Common.{◌≡◌, ℕ, zero, suc, ◌+◌, ◌-◌, ◌<◌, ◌≤◌, List, [], ◌∷◌, ◌++◌, length, take, Some, slice_get, ap, sym, ◌∙◌, arith, inl, inr}
use Rattle.std.specs.Prelude.{◌⊎◌}
use Rattle.std.proofs.lemmas.List.{take_all, take-take, take-append-le, length_push}
use Rattle.std.proofs.lemmas.Option.{slice_get_within, same_Some}
use Rattle.std.proofs.lemmas.Bool.{cases_lt}
use Rattle.hp_units.specs.Memory.{Memory}
use Rattle.hp_laws.proofs.Names.{Record}
use Rattle.hp_units.specs.History.{steps_until, net_of, IsLegal}
use Rattle.hp_units.specs.LayoutParts.{LayoutParts}
use Rattle.hp_laws.proofs.Lists.{get_left, get_end, get_push_cases, get_take, get_some}
use Rattle.hp_laws.proofs.Net.{net-push, Numbered, numbered_none, numbered_take, numbered_push, legal_all}
use Rattle.hp_laws.proofs.Undo.{net_cases, steps_until_at}

-- the net of a history with one more record is numbered
numbered_more : (before : ℕ) (g : List Record) (r : Record) → r.serial ≡ before + length g + 1
    → Numbered before (before + length g) (net_of g)
    → Numbered before (before + length (g ++ r ∷ [])) (net_of (g ++ r ∷ []))
numbered_more before g r is ok =
    rw (net-push g r, length_push g r)
    (elim (net_cases before _ _ r ok) [
      | inl cut ↦ rw cut.2 (numbered_take before _ _ cut.0 _ (omega arith) ok)
      | inr adds ↦ rw adds (numbered_push before _ _ _ r (omega arith) (omega arith) (omega (arith, is)) ok)
    ])

-- the net of a legal history is numbered, from its base up to its last record
pub numbered_net : (l : LayoutParts) (base : Memory) (before : ℕ) (h : List Record) → IsLegal l base before h
    → Numbered before (before + length h) (net_of h)
unfolding net_of
numbered_net l base before h legal =
    legal_all l base before (λ g. Numbered before (before + length g) (net_of g))
    (numbered_none before _) (λ g r f ok. numbered_more before g r f.serial ok) h legal

-- each step stands in the history, and what is before it in the net is the net of what was before
-- it in the history
pub record Rooted (before : ℕ) (h n : List Record) : Type 0 where
  pub over : (i : ℕ) (r : Record) → slice_get n i ≡ Some r → before < r.serial
  pub stands : (i : ℕ) (r : Record) → slice_get n i ≡ Some r → slice_get h (r.serial - before - 1) ≡ Some r
  pub comes : (i : ℕ) (r : Record) → slice_get n i ≡ Some r
      → take i n ≡ net_of (take (r.serial - before - 1) h)

-- no steps
rooted_none : (before : ℕ) (h : List Record) → Rooted before h []
rooted_none before h =
    record { over = λ i r e. absurd cc; stands = λ i r e. absurd cc; comes = λ i r e. absurd cc }

-- the first steps, in a history with one more record
rooted_take : (before k : ℕ) (h n : List Record) (r : Record) → Rooted before h n
    → Rooted before (h ++ r ∷ []) (take k n)
rooted_take before k h n r ok = record {
  over = λ i x e. ok.over i x (get_take k n x i e).1;
  stands = stand;
  comes = come;
}
  where
    stand : (i : ℕ) (x : Record) → slice_get (take k n) i ≡ Some x
        → slice_get (h ++ r ∷ []) (x.serial - before - 1) ≡ Some x
    stand i x e =
        let old = ok.stands i x (get_take k n x i e).1 in
        get_left h _ _ (slice_get_within h (x.serial - before - 1) x old) ∙ old

    come : (i : ℕ) (x : Record) → slice_get (take k n) i ≡ Some x
        → take i (take k n) ≡ net_of (take (x.serial - before - 1) (h ++ r ∷ []))
    come i x e =
        let at = get_take k n x i e in
        let within = slice_get_within h (x.serial - before - 1) x (ok.stands i x at.1) in
        let le : i ≤ k = omega (arith, at.0) in
        let le' : x.serial - before - 1 ≤ length h = omega (arith, within) in
        take-take i k n le
        ∙ (ok.comes i x at.1 ∙ ap net_of (sym (take-append-le (x.serial - before - 1) h (r ∷ []) le')))

-- one step more, which the history ends with
rooted_push : (before : ℕ) (h : List Record) (r : Record) → r.serial ≡ before + length h + 1
    → Rooted before h (net_of h) → Rooted before (h ++ r ∷ []) (net_of h ++ r ∷ [])
rooted_push before h r is ok = record {
  over =
      λ i x e. elim (get_push_cases _ r x i e)
      [ inl at ↦ ok.over i x at | inr at ↦ omega (arith, ap (λ (y : Record). y.serial) at.1) ];
  stands = λ i x e. stand i x (get_push_cases _ r x i e);
  comes = λ i x e. come i x (get_push_cases _ r x i e);
}
  where
    last : (x : Record) → r ≡ x → x.serial - before - 1 ≡ length h
    last x same = omega (arith, ap (λ (y : Record). y.serial) same)

    stand : (i : ℕ) (x : Record) → ((slice_get (net_of h) i ≡ Some x) ⊎ ((i ≡ length (net_of h)) × (r ≡ x)))
        → slice_get (h ++ r ∷ []) (x.serial - before - 1) ≡ Some x
    stand i x (inl at) =
        let old = ok.stands i x at in
        get_left h _ _ (slice_get_within h (x.serial - before - 1) x old) ∙ old
    stand i x (inr at) = rw (last x at.1) (rw (get_end h r, at.1))

    come : (i : ℕ) (x : Record) → ((slice_get (net_of h) i ≡ Some x) ⊎ ((i ≡ length (net_of h)) × (r ≡ x)))
        → take i (net_of h ++ r ∷ []) ≡ net_of (take (x.serial - before - 1) (h ++ r ∷ []))
    come i x (inl at) =
        let within = slice_get_within h (x.serial - before - 1) x (ok.stands i x at) in
        let le : i ≤ length (net_of h) = omega (arith, slice_get_within (net_of h) i x at) in
        let le' : x.serial - before - 1 ≤ length h = omega (arith, within) in
        take-append-le i (net_of h) (r ∷ []) le
        ∙ (ok.comes i x at ∙ ap net_of (sym (take-append-le (x.serial - before - 1) h (r ∷ []) le')))
    come i x (inr at) =
        let le : i ≤ length (net_of h) = omega (arith, at.0) in
        rw (last x at.1)
        (rw (take-append-le i (net_of h) (r ∷ []) le, take_all i (net_of h) (omega (arith, at.0))) (ap net_of
        (sym (take-append-le (length h) h (r ∷ []) (omega arith) ∙ take_all _ h (omega arith)))))

-- the net of a legal history is rooted in it
pub rooted_net : (l : LayoutParts) (base : Memory) (before : ℕ) (h : List Record) → IsLegal l base before h
    → Rooted before h (net_of h)
unfolding net_of
rooted_net l base before h legal =
    (legal_all l base before (λ g. Numbered before (before + length g) (net_of g)
    × Rooted before g (net_of g)) (numbered_none before _, rooted_none before [])
    (λ g r f ok. (numbered_more before g r f.serial ok.0, more g r f.serial ok)) h legal).1
  where
    more : (g : List Record) (r : Record) → r.serial ≡ before + length g + 1
        → Numbered before (before + length g) (net_of g) × Rooted before g (net_of g)
        → Rooted before (g ++ r ∷ []) (net_of (g ++ r ∷ []))
    more g r is ok =
        rw (net-push g r)
        (elim (net_cases before _ _ r ok.0) [
          | inl cut ↦ rw cut.2 (rooted_take before cut.0 g _ r ok.1)
          | inr adds ↦ rw adds (rooted_push before g r is ok.1)
        ])

-- each prefix of the net is what some undo, that is not refused, keeps
pub each_prefix : (before last : ℕ) (n : List Record) (k : ℕ) → before ≤ last → Numbered before last n
    → k ≤ length n
    → (s : ℕ) × (before ≤ s) × (s ≤ last) × (steps_until s n ≡ take k n)
each_prefix before last n zero le ok within = (
  before,
  omega arith,
  omega arith,
  steps_until_at before n zero (omega arith)
      (λ i r lt e. absurd (omega arith)) (λ i r ge e. ok.over i r e),
)
each_prefix before last n (suc k) le ok within =
    let q = get_some n k (omega arith) in (
      q.0.serial,
      omega (arith, ok.over k q.0 q.1),
      omega (arith, ok.under k q.0 q.1),
      steps_until_at _ n (suc k) within (λ i r lt e. low i r q lt e)
          (λ i r ge e. ok.rising k i q.0 r (omega arith) q.1 e),
    )
  where
    low : (i : ℕ) (r : Record) (q : (x : Record) × (slice_get n k ≡ Some x)) → i < suc k
        → slice_get n i ≡ Some r → r.serial ≤ q.0.serial
    low i r q lt e =
        elim (cases_lt i k) [
          | inl less ↦ omega (arith, ok.rising i k r q.0 less e q.1)
          | inr ge ↦ (let same : i ≡ k = omega arith in
              let is : Some r ≡ Some q.0 = sym e ∙ (ap (slice_get n) same ∙ q.1) in
              omega (arith, ap (λ (y : Record). y.serial) (same_Some r q.0 is)))
        ]
