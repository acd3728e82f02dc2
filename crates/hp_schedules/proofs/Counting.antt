-- How many schedules there are of a kind that is made of others.
use Rattle.std.proofs.Common.{◌≡◌, ℕ, zero, suc, ◌+◌, List, [], ◌∷◌, ◌++◌, length, map, Some, None, slice_get, refl, sym, ◌∙◌, arith, inl, inr}
use Rattle.std.specs.Prelude.{◌⊎◌, option_map}
use Rattle.std.proofs.lemmas.List.{length-append, length-map}
use Rattle.std.proofs.lemmas.Option.{slice_get-map, same_Some, slice_get_within}
use Rattle.hp_laws.proofs.SealedNets.{get_append_cases, get_right}
use Rattle.hp_laws.proofs.Lists.{get_left}
use Rattle.hp_schedules.specs.Orders.{HasCount}

-- what stands in the first of two lists stands in both, one after the other
pub get_longer : {A : Type 0} (xs ys : List A) (k : ℕ) (x : A) → slice_get xs k ≡ Some x
    → slice_get (xs ++ ys) k ≡ Some x
get_longer xs ys k x h = get_left xs ys k (slice_get_within xs k x h) ∙ h

-- of two kinds that have nothing in common
pub either_listed : (P Q : List ℕ → Type 0) (m n : ℕ) → ((s : List ℕ) → P s → Q s → ⊥) → HasCount P m
    → HasCount Q n → HasCount (λ s. P s ⊎ Q s) (m + n)
either_listed P Q m n apart p q = (
  p.0 ++ q.0,
  record {
    each = λ i s h.
        elim (get_append_cases p.0 q.0 i s h)
        [ inl e ↦ inl (p.1.each i s e) | inr e ↦ inr (q.1.each e.place s e.here) ];
    every = λ s h.
        elim h [
          | inl a ↦ (let at = p.1.every s a in (at.0, get_longer p.0 q.0 at.0 s at.1))
          | inr b ↦ (let at = q.1.every s b in (length p.0 + at.0, get_right p.0 q.0 at.0 ∙ at.1))
        ];
    once = λ i j s h k.
        elim (get_append_cases p.0 q.0 i s h) [
          | inl e ↦ elim (get_append_cases p.0 q.0 j s k) [
            | inl f ↦ p.1.once i j s e f
            | inr f ↦ absurd (apart s (p.1.each i s e) (q.1.each f.place s f.here))
          ]
          | inr e ↦ elim (get_append_cases p.0 q.0 j s k) [
            | inl f ↦ absurd (apart s (p.1.each j s f) (q.1.each e.place s e.here))
            | inr f ↦ omega (arith, e.sum, f.sum, q.1.once e.place f.place s e.here f.here)
          ]
        ];
  },
  rw (length-append, p.2, q.2),
)

-- of those of a kind, with one processor more in front
abbrev pub Fronted : (cpu : ℕ) → (List ℕ → Type 0) → List ℕ → Type 0
Fronted cpu P s = (t : List ℕ) × (s ≡ cpu ∷ t) × P t

pub fronted_listed : (cpu : ℕ) (P : List ℕ → Type 0) (n : ℕ) → HasCount P n → HasCount (Fronted cpu P) n
fronted_listed cpu P n p = (
  map (λ t. cpu ∷ t) p.0,
  record {
    each = λ i s h. let at = shown i s h in (at.0, at.1, p.1.each i at.0 at.2);
    every = λ s h. let at = p.1.every h.0 h.2 in (at.0, rw (slice_get-map, at.1, h.1));
    once = λ i j s h k.
        let a = shown i s h in
        let b = shown j s k in
        p.1.once i j a.0 a.2 cc;
  },
  length-map p.0 (λ t. cpu ∷ t) ∙ p.2,
)
  where
    shown : (i : ℕ) (s : List ℕ) → slice_get (map (λ t. cpu ∷ t) p.0) i ≡ Some s
        → (t : List ℕ) × (s ≡ cpu ∷ t) × (slice_get p.0 i ≡ Some t)
    shown i s h = elim (slice_get p.0 i) as (λ o. option_map (λ t. cpu ∷ t) o ≡ Some s
        → (t : List ℕ) × (s ≡ cpu ∷ t) × (o ≡ Some t))
        [ None ↦ λ e. absurd cc | Some t ↦ λ e. (t, cc, refl) ] (sym (slice_get-map (λ t. cpu ∷ t) p.0 i) ∙ h)

-- none
pub none_listed : (P : List ℕ → Type 0) → ((s : List ℕ) → P s → ⊥) → HasCount P 0
none_listed P none = (
  [],
  record {
    each = λ i s h. absurd cc;
    every = λ s h. absurd (none s h);
    once = λ i j s h k. absurd cc;
  },
  refl,
)

-- one
pub this_listed : (p : List ℕ) → HasCount (λ s. s ≡ p) 1
this_listed p = (p ∷ [], record { each = each; every = λ s same. (0, rw same); once = once }, refl)
  where
    each : (i : ℕ) (s : List ℕ) → slice_get (p ∷ []) i ≡ Some s → s ≡ p
    each zero s h = sym (same_Some p s h)
    each (suc i) s h = absurd cc

    once : (i j : ℕ) (s : List ℕ) → slice_get (p ∷ []) i ≡ Some s → slice_get (p ∷ []) j ≡ Some s → i ≡ j
    once zero zero s h k = refl
    once i j s h k = absurd cc

-- as many as of the same kind in other words
pub same_count : (P Q : List ℕ → Type 0) (n : ℕ) → ((s : List ℕ) → P s → Q s) → ((s : List ℕ) → Q s → P s)
    → HasCount P n → HasCount Q n
same_count P Q n to from counted = (
  counted.0,
  record {
    each = λ i s h. to s (counted.1.each i s h);
    every = λ s q. counted.1.every s (from s q);
    once = counted.1.once;
  },
  counted.2,
)
