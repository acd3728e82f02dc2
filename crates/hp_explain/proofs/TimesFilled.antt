-- Times that are filled in from the last line on.
use Rattle.std.proofs.Common.{◌≡◌, ℕ, zero, suc, ◌+◌, ◌<◌, ◌≤◌, List, [], ◌∷◌, ◌++◌, Some, drop, get_or, length, min, set, slice_get, take, refl, sym, ◌∙◌, arith, append_assoc}
use Rattle.std.proofs.lemmas.List.{append-nil, drop_all, drop_more, length-take-le, take_all, take_more}
use Rattle.std.proofs.lemmas.Option.{none-some, same_Some}
use Rattle.std.proofs.Math.Seq.{get_or-append_seam, set-append_seam}
use Rattle.hp_explain.specs.AnswerObjects.{filled, first_to}
use Rattle.hp_explain.specs.Explaining.{AreRising}
use Rattle.hp_explain.specs.declared.observed.ObservedLine.{ObservedLine}

-- ---- they rise

first_below : (lines : List ObservedLine) (j : ℕ) (b : ObservedLine) → AreRising lines
    → slice_get lines j ≡ Some b → first_to lines ≤ b.to
first_below [] j b rising here = absurd (none-some b here)
first_below (a ∷ lines) j b rising here = rising 0 j a b refl here (omega arith)

rise_more : (a : ObservedLine) (lines : List ObservedLine) → a.to ≤ first_to lines → AreRising lines
    → AreRising (a ∷ lines)
rise_more a lines low rising zero zero x y here there order =
    rw (same_Some x y (sym here ∙ there)) (omega arith)
rise_more a lines low rising zero (suc j) x y here there order =
    rw (← same_Some a x here) (omega (arith, first_below lines j y rising there, low))
rise_more a lines low rising (suc i) zero x y here there order = absurd (omega (arith, order))
rise_more a lines low rising (suc i) (suc j) x y here there order =
    rising i j x y here there (omega (arith, order))

pub filled_rise : (lines : List ObservedLine) → AreRising (filled lines)
filled_rise [] i j a b here there order = absurd (none-some a here)
filled_rise (one ∷ lines) i j a b here there order =
    rise_more (record one { to = min one.to (first_to (filled lines)) }) (filled lines) (omega arith)
    (filled_rise lines) i j a b here there order

-- ---- from the last line on

-- the last lines are filled in
pub record IsFilledFrom (old lines : List ObservedLine) (passed later : ℕ) : Type 0 where
  pub start : ℕ
  pub place : start + passed ≡ length old
  pub told : lines ≡ take start old ++ filled (drop start old)
  pub first : later ≡ first_to (filled (drop start old))

pub fill_none : (old : List ObservedLine) → IsFilledFrom old old 0 18446744073709551615
fill_none old =
    let rest = drop_all (length old) old (omega arith) in record {
      start = length old;
      place = omega arith;
      told = rw (take_all (length old) old (omega arith), rest, append-nil);
      first = rw rest;
    }

-- a line with another time
abbrev pub with_to : ObservedLine → (to : ℕ) → ObservedLine
with_to one to = record one { to = to }

pub fill_step : (old lines : List ObservedLine) (passed later m to : ℕ) (d : ObservedLine)
    → m + 1 + passed ≡ length old → to ≡ min (get_or lines m d).to later → IsFilledFrom old lines passed later
    → IsFilledFrom old (set lines m (with_to (get_or lines m d) to)) (passed + 1) to
fill_step old lines passed later m to d sum least so_far = record {
  start = m;
  place = omega (arith, sum);
  told =
      rw (least, here, next, shape, drop_more old m d low)
      (rw seam at (set-append_seam (take m old) x tail (with_to x (min x.to (first_to tail)))));
  first = rw (least, here, next, drop_more old m d low);
}
  where
    x : ObservedLine
    x = get_or old m d

    tail : List ObservedLine
    tail = filled (drop (m + 1) old)

    start_is : so_far.start ≡ m + 1
    start_is = omega (arith, sum, so_far.place)

    low : m < length old
    low = omega (arith, sum)

    seam : length (take m old) ≡ m
    seam = length-take-le m old (omega (arith, low))

    shape : lines ≡ take m old ++ (x ∷ tail)
    shape = rw (start_is, take_more old m d low, append_assoc) at so_far.told

    here : get_or lines m d ≡ x
    here = rw shape (rw seam at (get_or-append_seam (take m old) x tail d))

    next : later ≡ first_to tail
    next = rw start_is at so_far.first

pub fill_all : (old lines : List ObservedLine) (passed later : ℕ) → length old ≤ passed
    → IsFilledFrom old lines passed later → lines ≡ filled old
fill_all old lines passed later all so_far =
    let none : so_far.start ≡ 0 = omega (arith, so_far.place, all) in rw none at so_far.told
