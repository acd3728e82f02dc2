-- The number of interleavings of sequences.
use Rattle.std.specs.Prelude.{◌≡◌, ℕ, zero, suc, ◌*◌, ◌<◌, ◌==◌, List, [], ◌∷◌, ◌++◌, count_by, sum_by}

-- how often a processor occurs in a schedule
abbrev pub turns_of : (cpu : ℕ) → List ℕ → ℕ
turns_of cpu schedule = count_by (λ c. c == cpu) schedule

-- the factorial of a number
abbrev pub factorial : ℕ → ℕ
factorial zero = 1
factorial (suc n) = suc n * factorial n

-- the product of the factorials of several numbers
abbrev pub factorials : List ℕ → ℕ
factorials [] = 1
factorials (n ∷ ns) = factorial n * factorials ns

-- the sum of several numbers
abbrev pub sum : List ℕ → ℕ
sum ns = sum_by (λ n. n) ns

-- `m` is the multinomial coefficient of the numbers `ns` (Knuth 1, 1.2.6)
abbrev pub IsMultinomial : List ℕ → ℕ → Type 0
IsMultinomial ns m = m * factorials ns ≡ factorial (sum ns)

-- if some numbers have the sum `total` and the multinomial coefficient `count`, then `m` is the
-- coefficient of these numbers and one more, `length`
abbrev pub IsMultinomialWith : (count total length m : ℕ) → Type 0
IsMultinomialWith count total length m =
    (ns : List ℕ) → sum ns ≡ total → IsMultinomial ns count → IsMultinomial (ns ++ length ∷ []) m

-- if some numbers have the sum `total` and the multinomial coefficient `count`, then the
-- coefficient of these numbers and one more, `length`, is above the limit
abbrev pub ExceedsWith : (count total length limit : ℕ) → Type 0
ExceedsWith count total length limit =
    (ns : List ℕ) (m : ℕ) → sum ns ≡ total → IsMultinomial ns count → IsMultinomial (ns ++ length ∷ []) m
    → limit < m
