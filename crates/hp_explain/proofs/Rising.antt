-- Scripts whose lines are answered in their order.
use Rattle.std.proofs.Common.{◌≡◌, ℕ, ◌<◌, ◌≤◌, List, length, Some, None, slice_get, arith, inl, inr}
use Rattle.std.specs.Prelude.{◌↔◌}
use Rattle.std.proofs.lemmas.Bool.{cases_lt}
use Rattle.std.proofs.lemmas.Option.{slice_get_cases, slice_get_within}
use Rattle.hp_explain.specs.Explaining.{AreOverBefore, AreRising}
use Rattle.hp_explain.specs.declared.observed.ObservedLine.{ObservedLine}

-- the first lines rise
abbrev pub RiseUpTo : List ObservedLine → (n : ℕ) → Type 0
RiseUpTo lines n =
    (i j : ℕ) (a b : ObservedLine) → slice_get lines i ≡ Some a → slice_get lines j ≡ Some b → i ≤ j → j < n
    → a.to ≤ b.to

-- the line after the first ones is answered first of the others
pub over_told : (lines : List ObservedLine) (count time : ℕ) (one : ObservedLine) → AreRising lines
    → slice_get lines count ≡ Some one → (time ≤ one.to) ↔ AreOverBefore lines count time
over_told lines count time one all here = (
  λ late k other there early. elim (cases_lt k count) [
    | inl before ↦ before
    | inr past ↦ absurd (omega (arith, all count k one other here there past, late, early))
  ],
  λ over. elim (cases_lt one.to time) [
    | inl early ↦ absurd (omega (arith, over count one here early))
    | inr late ↦ late
  ],
)

-- all lines are among the first ones
pub over_all : (lines : List ObservedLine) (count time : ℕ) → length lines ≤ count
    → AreOverBefore lines count time
over_all lines count time all k one there early =
    omega (arith, slice_get_within lines k one there, all)

pub get_none : (lines : List ObservedLine) (k : ℕ) → slice_get lines k ≡ None → length lines ≤ k
get_none lines k none = grind (arith, slice_get_cases)
