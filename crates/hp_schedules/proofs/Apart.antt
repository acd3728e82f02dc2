-- How many schedules there are of one of two kinds, and of those that continue another place.
use Rattle.std.proofs.Common.{◌≡◌, ℕ, zero, suc, ◌+◌, List, [], ◌∷◌, ◌++◌, length, map, drop, Some, slice_get, refl, ap, sym, subst, ◌∙◌, arith, inl, inr}
use Rattle.std.specs.Prelude.{◌⊎◌, option_map}
use Rattle.std.proofs.lemmas.List.{append_cancel_left, length-map}
use Rattle.std.proofs.lemmas.Option.{none-some, same_Some, slice_get-map}
use Rattle.hp_schedules.specs.Orders.{Extends, HasCount}
use Rattle.hp_schedules.proofs.Counting.{none_listed, same_count}
use Rattle.hp_schedules.proofs.Counts.{one_more}
use Rattle.std.proofs.Math.Seq.{drop-append_seam}
use Rattle.hp_laws.proofs.Options.{cases_option}
use Rattle.hp_schedules.proofs.Uniqueness.{only_count}

-- ---- those of one kind among a list's

abbrev IsIn : List (List ℕ) → List ℕ → Type 0
IsIn all s = (i : ℕ) × (slice_get all i ≡ Some s)

abbrev IsOnce : List (List ℕ) → Type 0
IsOnce all = (i j : ℕ) (s : List ℕ) → slice_get all i ≡ Some s → slice_get all j ≡ Some s → i ≡ j

record Sides (P Q : List ℕ → Type 0) (all : List (List ℕ)) : Type 0 where
  first : ℕ
  second : ℕ
  firsts : HasCount (λ s. IsIn all s × P s) first
  seconds : HasCount (λ s. IsIn all s × Q s) second
  both : first + second ≡ length all

sides_of : (P Q : List ℕ → Type 0) (all : List (List ℕ)) → ((s : List ℕ) → P s → Q s → ⊥)
    → ((i : ℕ) (s : List ℕ) → slice_get all i ≡ Some s → P s ⊎ Q s) → IsOnce all → Sides P Q all
sides_of P Q [] apart side once = record {
  first = 0;
  second = 0;
  firsts = none_listed (λ s. IsIn [] s × P s) (λ s h. none s h.0);
  seconds = none_listed (λ s. IsIn [] s × Q s) (λ s h. none s h.0);
  both = refl;
}
  where
    none : (s : List ℕ) → IsIn [] s → ⊥
    none s h = cc
sides_of P Q (x ∷ all) apart side once =
    by_side (side 0 x refl) (sides_of P Q all apart (λ i s h. side (suc i) s h)
    (λ i j s h k. omega (arith, once (suc i) (suc j) s h k)))
  where
    fresh : IsIn all x → ⊥
    fresh h = let same : 0 ≡ suc h.0 = once 0 (suc h.0) x refl h.1 in omega arith

    was_in : (s : List ℕ) → IsIn (x ∷ all) s → IsIn all s ⊎ (s ≡ x)
    was_in s h = by_place h.0 h.1
      where
        by_place : (i : ℕ) → slice_get (x ∷ all) i ≡ Some s → IsIn all s ⊎ (s ≡ x)
        by_place zero e = inr (sym (same_Some x s e))
        by_place (suc i) e = inl (i, e)

    longer : (s : List ℕ) → IsIn all s → IsIn (x ∷ all) s
    longer s h = (suc h.0, h.1)

    more : (R : List ℕ → Type 0) (n : ℕ) → R x → HasCount (λ s. IsIn all s × R s) n
        → HasCount (λ s. IsIn (x ∷ all) s × R s) (n + 1)
    more R n this counted =
        same_count (λ s. (IsIn all s × R s) ⊎ (s ≡ x)) (λ s. IsIn (x ∷ all) s × R s) (n + 1)
        (λ s h. elim h
        [ inl e ↦ (longer s e.0, e.1) | inr same ↦ ((0, ap Some (sym same)), subst R (sym same) this) ])
        (λ s h. elim (was_in s h.0) [ inl e ↦ inl (e, h.1) | inr same ↦ inr same ])
        (one_more (λ s. IsIn all s × R s) n x (λ h. fresh h.0) counted)

    still : (R : List ℕ → Type 0) (n : ℕ) → (R x → ⊥) → HasCount (λ s. IsIn all s × R s) n
        → HasCount (λ s. IsIn (x ∷ all) s × R s) n
    still R n other counted =
        same_count (λ s. IsIn all s × R s) (λ s. IsIn (x ∷ all) s × R s) n (λ s h. (longer s h.0, h.1))
        (λ s h. elim (was_in s h.0) [ inl e ↦ (e, h.1) | inr same ↦ absurd (other (subst R same h.1)) ])
        counted

    by_side : P x ⊎ Q x → Sides P Q all → Sides P Q (x ∷ all)
    by_side (inl p) rest = record {
      first = rest.first + 1;
      second = rest.second;
      firsts = more P rest.first p rest.firsts;
      seconds = still Q rest.second (λ q. apart x p q) rest.seconds;
      both = omega (arith, rest.both);
    }
    by_side (inr q) rest = record {
      first = rest.first;
      second = rest.second + 1;
      firsts = still P rest.first (λ p. apart x p q) rest.firsts;
      seconds = more Q rest.second q rest.seconds;
      both = omega (arith, rest.both);
    }

-- so those of the second of two kinds that have nothing in common are all but those of the first
pub difference : (P Q : List ℕ → Type 0) (m t : ℕ) → ((s : List ℕ) → P s → Q s → ⊥) → HasCount P m
    → HasCount (λ s. P s ⊎ Q s) t → (n : ℕ) × HasCount Q n × (m + n ≡ t)
difference P Q m t apart some all = (
  sides.second,
  same_count _ Q _ (λ s h. h.1) (λ s q. (all.1.every s (inr q), q))
      sides.seconds,
  omega (arith, sides.both, all.2, as_many),
)
  where
    sides : Sides P Q all.0
    sides = sides_of P Q _ apart all.1.each all.1.once

    as_many : sides.first ≡ m
    as_many =
        only_count P _ m (same_count _ P _ (λ s h. h.1) (λ s p. (all.1.every s (inl p), p)) sides.firsts) some

-- ---- those that continue another place alike

pub moved : (P Q : List ℕ → Type 0) (p q : List ℕ) (n : ℕ) → ((rest : List ℕ) → P (p ++ rest) → Q (q ++ rest))
    → ((rest : List ℕ) → Q (q ++ rest) → P (p ++ rest)) → HasCount (λ s. Extends s p × P s) n
    → HasCount (λ s. Extends s q × Q s) n
moved P Q p q n to from counted = (
  map shift counted.0,
  record {
    each = λ i s h.
        let at = shown i s h in
        let of = counted.1.each i at.0 at.2 in
        let is : s ≡ q ++ of.0.0 = sym at.1 ∙ shifted _ _ of.0.1 in
        ((of.0.0, is), subst Q (sym is) (to of.0.0 (subst P of.0.1 of.1)));
    every = λ s h.
        let at = counted.1.every (p ++ h.0.0) ((h.0.0, refl), from h.0.0 (subst Q h.0.1 h.1)) in (
          at.0,
          slice_get-map shift counted.0 at.0
              ∙ (ap (option_map shift) at.1 ∙ ap Some (shifted (p ++ h.0.0) h.0.0 refl ∙ sym h.0.1)),
        );
    once = λ i j s h k.
        let a = shown i s h in
        let b = shown j s k in
        let x = counted.1.each i a.0 a.2 in
        let y = counted.1.each j b.0 b.2 in
        let same : x.0.0 ≡ y.0.0 =
        append_cancel_left q x.0.0 y.0.0 (sym (shifted _ _ x.0.1) ∙ (a.1 ∙ (sym b.1 ∙ shifted _ _ y.0.1))) in
        let both : b.0 ≡ a.0 = y.0.1 ∙ (ap (λ (rest : List ℕ). p ++ rest) (sym same) ∙ sym x.0.1) in
        counted.1.once i j a.0 a.2 (b.2 ∙ ap Some both);
  },
  length-map counted.0 shift ∙ counted.2,
)
  where
    shift : List ℕ → List ℕ
    shift s = q ++ drop (length p) s

    shifted : (s rest : List ℕ) → s ≡ p ++ rest → shift s ≡ q ++ rest
    shifted s rest is = rw (is, drop-append_seam p rest)

    shown : (i : ℕ) (s : List ℕ) → slice_get (map shift counted.0) i ≡ Some s
        → (t : List ℕ) × (shift t ≡ s) × (slice_get counted.0 i ≡ Some t)
    shown i s h = elim (cases_option (slice_get counted.0 i)) [
      | inl none ↦ absurd (none-some s (rw (slice_get-map shift counted.0 i, none) at h))
      | inr t ↦ (t.0, same_Some (shift t.0) s (rw (slice_get-map shift counted.0 i, t.1) at h), t.1)
    ]
