-- Laws of the net of a history: none of them unfolds a step of the machine.
use Rattle.std.proofs.Common.{◌≡◌, ℕ, zero, suc, ◌<◌, ◌≤◌, List, [], ◌∷◌, ◌++◌, length, take, Some, slice_get, refl, ap, sym, subst, ◌∙◌, arith, inl, inr}
use Rattle.std.proofs.lemmas.List.Sums.{fold_push}
use Rattle.std.proofs.lemmas.List.{take_all, take-take, take-append-le}
use Rattle.std.proofs.lemmas.Option.{slice_get_within}
use Rattle.hp_units.specs.Memory.{Memory}
use Rattle.hp_units.specs.Step.{step}
use Rattle.hp_laws.proofs.Names.{Record}
use Rattle.hp_units.specs.History.{net_with, net_of, run, Follows, IsLegal}
use Rattle.hp_units.specs.LayoutParts.{LayoutParts}
use Rattle.hp_laws.proofs.Lists.{get_push_cases, get_take, get_some, take_next}

-- the net of a history with one more record
pub net-push : (h : List Record) (r : Record) → net_of (h ++ r ∷ []) ≡ net_with (net_of h) r
unfolding net_of
net-push h r = fold_push net_with [] h r

-- two lists of steps, one after the other
pub run-append : (l : LayoutParts) (s : Memory) (a b : List Record) → run l s (a ++ b) ≡ run l (run l s a) b
unfolding run
run-append l s [] b = refl
run-append l s (r ∷ a) b = run-append l (step l s r.serial r.cpu r.event).memory a b

-- one step more
pub run-push : (l : LayoutParts) (s : Memory) (a : List Record) (r : Record)
    → run l s (a ++ r ∷ []) ≡ (step l (run l s a) r.serial r.cpu r.event).memory
unfolding run
run-push l s a r = run-append l s a _

-- a record that may stand after a legal history makes a longer one
pub legal_push : (l : LayoutParts) (base : Memory) (before : ℕ) (h : List Record) (r : Record)
    → IsLegal l base before h → Follows l base before h r → IsLegal l base before (h ++ r ∷ [])
legal_push l base before h r legal next n x e =
    elim (get_push_cases h r x n e) [
      | inl at ↦ (let lt : n < length h = slice_get_within h n x at in
          let le : n ≤ length h = omega arith in
          rw (take-append-le n h (r ∷ []) le) (legal n x at))
      | inr at ↦ (let le : n ≤ length h = omega arith in
          rw (take-append-le n h (r ∷ []) le ∙ take_all n h (omega arith), ← at.1) next)
    ]

-- a beginning of a legal history is legal
pub legal_take : (l : LayoutParts) (base : Memory) (before : ℕ) (h : List Record) (k : ℕ)
    → IsLegal l base before h → IsLegal l base before (take k h)
legal_take l base before h k legal n x e =
    let at = get_take k h x n e in
    let le : n ≤ k = omega (arith, at.0) in
    rw (take-take n k h le) (legal n x at.1)

-- what holds of no records, and is kept by each, holds of each beginning of a legal history
pub legal_each : (l : LayoutParts) (base : Memory) (before : ℕ) (P : List Record → Type 0) → P []
    → ((g : List Record) (r : Record) → Follows l base before g r → P g → P (g ++ r ∷ []))
    → (h : List Record) → IsLegal l base before h → (n : ℕ) → n ≤ length h → P (take n h)
legal_each l base before P none more h legal zero le = none
legal_each l base before P none more h legal (suc n) le =
    let r = get_some h n (omega arith) in
    subst P (sym (take_next h n r.0 r.1))
    (more _ r.0 (legal n r.0 r.1) (legal_each l base before P none more h legal n (omega arith)))

-- what holds of no records, and is kept by each, holds of each legal history
pub legal_all : (l : LayoutParts) (base : Memory) (before : ℕ) (P : List Record → Type 0) → P []
    → ((g : List Record) (r : Record) → Follows l base before g r → P g → P (g ++ r ∷ []))
    → (h : List Record) → IsLegal l base before h → P h
legal_all l base before P none more h legal =
    subst P (take_all (length h) h (omega arith))
    (legal_each l base before P none more h legal _ (omega arith))

-- the serials of steps rise, above what went before and up to the last
pub record Numbered (before last : ℕ) (n : List Record) : Type 0 where
  pub over : (i : ℕ) (r : Record) → slice_get n i ≡ Some r → before < r.serial
  pub under : (i : ℕ) (r : Record) → slice_get n i ≡ Some r → r.serial ≤ last
  pub rising : (i j : ℕ) (q r : Record) → i < j → slice_get n i ≡ Some q → slice_get n j ≡ Some r
      → q.serial < r.serial

-- no steps are numbered
pub numbered_none : (before last : ℕ) → Numbered before last []
numbered_none before last =
    record { over = λ i r e. absurd cc; under = λ i r e. absurd cc; rising = λ i j q r lt e f. absurd cc }

-- the first steps are numbered, up to any later serial
pub numbered_take : (before last more k : ℕ) (n : List Record) → last ≤ more → Numbered before last n
    → Numbered before more (take k n)
numbered_take before last more k n le ok = record {
  over = λ i r e. ok.over i r (get_take k n r i e).1;
  under = λ i r e. omega (arith, ok.under i r (get_take k n r i e).1);
  rising = λ i j q r lt e f. ok.rising i j q r lt (get_take k n q i e).1 (get_take k n r j f).1;
}

-- one step more, with the next serial
pub numbered_push : (before last more : ℕ) (n : List Record) (r : Record) → before ≤ last → last < more
    → r.serial ≡ more → Numbered before last n → Numbered before more (n ++ r ∷ [])
numbered_push before last more n r ge lt is ok = record {
  over =
      λ i x e. elim (get_push_cases n r x i e)
      [ inl at ↦ ok.over i x at | inr at ↦ omega (arith, ap (λ (y : Record). y.serial) at.1) ];
  under =
      λ i x e. elim (get_push_cases n r x i e) [
        | inl at ↦ omega (arith, ok.under i x at)
        | inr at ↦ omega (arith, ap (λ (y : Record). y.serial) at.1)
      ];
  rising = λ i j q x less e f.
      elim (get_push_cases n r x j f) [
        | inl at ↦ elim (get_push_cases n r q i e) [
          | inl here ↦ ok.rising i j q x less here at
          | inr here ↦
              (let within : j < length n = slice_get_within n j x at in absurd (omega (arith, here.0)))
        ]
        | inr at ↦ elim (get_push_cases n r q i e) [
          | inl here ↦ omega (arith, ok.under i q here, ap (λ (y : Record). y.serial) at.1)
          | inr here ↦ absurd (omega (arith, here.0, at.0))
        ]
      ];
}
