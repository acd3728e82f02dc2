-- Multinomial coefficients, one turn more at a time.
use Rattle.std.proofs.Common.{◌≡◌, ℕ, zero, suc, ◌+◌, ◌*◌, ◌/◌, ◌-◌, ◌<◌, ◌≤◌, List, [], ◌∷◌, ◌++◌, length, take, drop, get_or, add-one, refl, sym, arith}
use Rattle.std.proofs.Math.Nat.{mul-pos, mul-le-mul_left, le_of_mul-le-mul_right, eq_of_mul-eq-mul_left, div-eq_of_eq-mul_left}
use Rattle.std.proofs.lemmas.List.{append-nil, append_assoc, take-append-drop, take_all, take_more}
use Rattle.std.proofs.lemmas.List.Sums.{sum_by_more_le, sum_by_push}
use Rattle.hp_schedules.specs.Multinomials.{ExceedsWith, IsMultinomial, IsMultinomialWith, factorial, factorials, sum}
use Rattle.hp_schedules.proofs.Interleaved.{AreInterleaved, interleaved}

factorial_positive : (n : ℕ) → zero < factorial n
factorial_positive zero = omega arith
factorial_positive (suc n) = mul-pos (omega arith) (factorial_positive n)

factorials_positive : (ns : List ℕ) → zero < factorials ns
factorials_positive [] = omega arith
factorials_positive (n ∷ ns) = mul-pos (factorial_positive n) (factorials_positive ns)

factorials_push : (ns : List ℕ) (n : ℕ) → factorials (ns ++ n ∷ []) ≡ factorials ns * factorial n
factorials_push [] n = omega arith
factorials_push (k ∷ ns) n = rw (factorials_push ns n) (omega arith)

-- there is one coefficient
pub only_one : (ns : List ℕ) (a b : ℕ) → IsMultinomial ns a → IsMultinomial ns b → a ≡ b
only_one ns a b is also =
    eq_of_mul-eq-mul_left (factorials ns) (factorials_positive ns) a b (omega (arith, is, also))

-- with no turn of a further processor it is the same
pub with_none : (ns : List ℕ) (m : ℕ) → IsMultinomial ns m → IsMultinomial (ns ++ 0 ∷ []) m
with_none ns m is = grind (arith, factorials_push, sum_by_push)

-- with one turn more
abbrev pub IsNext : List ℕ → (turns m next : ℕ) → Type 0
IsNext ns turns m next =
    IsMultinomial (ns ++ suc turns ∷ []) next × (next * suc turns ≡ m * suc (sum ns + turns))

pub next_one : (ns : List ℕ) (turns m : ℕ) → IsMultinomial (ns ++ turns ∷ []) m
    → (next : ℕ) × IsNext ns turns m next
next_one ns turns m is =
    let one : AreInterleaved (ns ++ suc turns ∷ []) =
    interleaved (sum (ns ++ suc turns ∷ [])) (ns ++ suc turns ∷ []) refl in
    (one.0, (one.2, times one.0 one.2))
  where
    times : (next : ℕ) → IsMultinomial (ns ++ suc turns ∷ []) next
        → next * suc turns ≡ m * suc (sum ns + turns)
    times next also =
        let all : sum (ns ++ suc turns ∷ []) ≡ suc (sum ns + turns) =
        omega (arith, sum_by_push (λ (n : ℕ). n) ns (suc turns)) in
        let was = rw (factorials_push ns turns, sum_by_push (λ (n : ℕ). n) ns turns) at is in
        let now = rw (factorials_push ns (suc turns), all) at also in
        eq_of_mul-eq-mul_left (factorials ns * factorial turns)
        (mul-pos (factorials_positive ns) (factorial_positive turns)) (next * suc turns)
        (m * suc (sum ns + turns)) (omega (arith, rw (← was) at now))

-- which is no less
next_up : (ns : List ℕ) (turns m next : ℕ) → IsNext ns turns m next → m ≤ next
next_up ns turns m next is = grind (arith, le_of_mul-le-mul_right, mul-le-mul_left)

-- and is found by a division
pub next_found : (ns : List ℕ) (turns m next total : ℕ) → sum ns ≡ total → IsNext ns turns m next
    → m * (total + turns + 1) / (turns + 1) ≡ next
next_found ns turns m next total all is =
    rw (← all) (div-eq_of_eq-mul_left (omega arith) (omega (arith, is.1)))

-- with more turns it is no less
turns_up : (ns : List ℕ) (more turns all a b : ℕ) → all ≡ turns + more → IsMultinomial (ns ++ turns ∷ []) a
    → IsMultinomial (ns ++ all ∷ []) b → a ≤ b
turns_up ns zero turns all a b whole is also = grind (arith, only_one)
turns_up ns (suc more) turns all a b whole is also =
    let next = next_one ns turns a is in
    omega (
      arith,
      next_up ns turns a next.0 next.1,
      turns_up ns more (suc turns) all next.0 b (omega arith) next.1.0 also,
    )

-- and with more processors
pub list_up : (ns ms : List ℕ) (a b : ℕ) → IsMultinomial ns a → IsMultinomial (ns ++ ms) b → a ≤ b
list_up ns [] a b is also = omega (arith, only_one ns a b is (rw append-nil at also))
list_up ns (k ∷ ms) a b is also =
    let one : AreInterleaved (ns ++ k ∷ []) = interleaved (sum (ns ++ k ∷ [])) (ns ++ k ∷ []) refl in
    omega (
      arith,
      turns_up ns k 0 k a one.0 (omega arith) (with_none ns a is) one.2,
      list_up (ns ++ k ∷ []) ms one.0 b one.2 (rw append_assoc also),
    )

-- ---- as the code has them

-- one turn more
pub with_next : (count total turn reached a b d : ℕ) → IsMultinomialWith count total turn reached
    → a ≡ reached → b ≡ total + turn + 1 → d ≡ turn + 1 → IsMultinomialWith count total (turn + 1) (a * b / d)
with_next count total turn reached a b d so_far is_a is_b is_d ns all is =
    let next = next_one ns turn reached (so_far ns all is) in
    rw (is_a, is_b, is_d, next_found ns turn reached next.0 total all next.1, add-one) next.1.0

-- which is above the limit
pub with_exceeded : (count total length limit turn reached a b d e : ℕ) → turn < length
    → IsMultinomialWith count total turn reached → a ≡ reached → b ≡ total + turn + 1 → d ≡ turn + 1
    → e ≡ limit → e < a * b / d → ExceedsWith count total length limit
with_exceeded count total length limit turn reached a b d e less so_far is_a is_b is_d is_e above ns m all is
    also =
    let now = with_next count total turn reached a b d so_far is_a is_b is_d ns all is in
    omega (arith, turns_up ns (length - (turn + 1)) (turn + 1) length (a * b / d) m (omega arith) now also)

-- ---- all lengths

-- the limit is exceeded by the first of them, and so by all
pub exceeded : (ns : List ℕ) (m count total at limit : ℕ) → at < length ns → IsMultinomial (take at ns) count
    → total ≡ sum (take at ns) → ExceedsWith count total (get_or ns at 0) limit → IsMultinomial ns m
    → limit < m
exceeded ns m count total at limit within so_far all above is =
    let one : AreInterleaved (take (at + 1) ns) =
    interleaved (sum (take (at + 1) ns)) (take (at + 1) ns) refl in
    omega (
      arith,
      above (take at ns) one.0 (sym all) so_far (rw (← take_more ns at 0 within) one.2),
      list_up (take (at + 1) ns) (drop (at + 1) ns) one.0 m one.2 (rw take-append-drop is),
    )

-- after all of them it is the coefficient
pub all_counted : (ns : List ℕ) (count at : ℕ) → length ns ≤ at → IsMultinomial (take at ns) count
    → IsMultinomial ns count
all_counted ns count at past so_far = rw (take_all at ns past) at so_far

-- and where that is above the limit, so is any other
pub all_exceed : (ns : List ℕ) (count at limit : ℕ) → length ns ≤ at → IsMultinomial (take at ns) count
    → limit < count → (m : ℕ) → IsMultinomial ns m → limit < m
all_exceed ns count at limit past so_far above m is =
    omega (arith, above, only_one ns count m (all_counted ns count at past so_far) is)

-- where the sum of those so far does not fit, that of all does not
pub over_summed : (ns : List ℕ) (total at : ℕ) → at < length ns → total ≡ sum (take at ns)
    → (total + get_or ns at 0 < 18446744073709551616 → ⊥) → 18446744073709551616 ≤ sum ns
over_summed ns total at within so_far over =
    omega (arith, sum_by_more_le (λ (n : ℕ). n) ns at 0 within)
