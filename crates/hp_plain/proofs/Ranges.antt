-- Tests and folds over the numbers from `a` on, with one more number.
use Rattle.std.proofs.Common.{◌≡◌, ℕ, zero, suc, ◌+◌, ◌-◌, ◌<◌, List, [], ◌∷◌, ◌++◌, Bool, true, false, cond, ◌||◌, ◌&&◌, refl, sym, ◌∙◌, ap, arith, add-one}
use Rattle.std.specs.List.{fold, list_any, list_all, range_with_len}
use Rattle.std.proofs.lemmas.Bool.{false≢true}
use Rattle.std.proofs.lemmas.List.Sums.{fold_push}

-- the numbers that are left, the first of them in front
pub range_step : (a n size : ℕ) → n < size
    → range_with_len (a + n) (size - n) ≡ (a + n) ∷ range_with_len (a + (n + 1)) (size - (n + 1))
range_step a n size h =
    let less : size - n ≡ suc (size - (n + 1)) = omega arith in
    let next : a + n + 1 ≡ a + (n + 1) = omega arith in
    rw (less, next)

-- a test whether some number from `n` on passes
pub any-below_step : (p : ℕ → Bool) (n size : ℕ) (holds : Bool) → n < size → p n ≡ holds
    → list_any p (range_with_len n (size - n))
    ≡ cond holds true (list_any p (range_with_len (n + 1) (size - (n + 1))))
any-below_step p n size holds h e =
    let less : size - n ≡ suc (size - (n + 1)) = omega arith in
    rw less (or_cond (p n) holds (list_any p (range_with_len (n + 1) (size - (n + 1)))) e)
  where
    or_cond : (x y rest : Bool) → x ≡ y → (x || rest) ≡ cond y true rest
    or_cond true true rest f = refl
    or_cond false false rest f = refl
    or_cond true false rest f = absurd cc
    or_cond false true rest f = absurd cc

-- a test of all numbers
pub all-range_step : (p : ℕ → Bool) (a n size : ℕ) (holds : Bool) → n < size → p (a + n) ≡ holds
    → list_all p (range_with_len (a + n) (size - n))
    ≡ cond holds (list_all p (range_with_len (a + (n + 1)) (size - (n + 1)))) false
all-range_step p a n size holds h e =
    ap (list_all p) (range_step a n size h)
    ∙ and_cond (p (a + n)) holds (list_all p (range_with_len (a + (n + 1)) (size - (n + 1)))) e
  where
    and_cond : (x y rest : Bool) → x ≡ y → (x && rest) ≡ cond y rest false
    and_cond true true rest f = refl
    and_cond false false rest f = refl
    and_cond true false rest f = absurd (false≢true (sym f))
    and_cond false true rest f = absurd (false≢true f)

-- the numbers from `a` on, with one more
pub range_push : (a n : ℕ) → range_with_len a (suc n) ≡ range_with_len a n ++ (a + n) ∷ []
range_push a zero = ap (λ (k : ℕ). k ∷ []) (omega arith)
range_push a (suc n) =
    ap (λ (xs : List ℕ). a ∷ xs)
    (range_push (a + 1) n ∙ ap (λ (k : ℕ). range_with_len (a + 1) n ++ k ∷ []) (omega arith))

-- a fold over the numbers from `a` on, with one more
pub fold-range_more : {B : Type 0} (f : B → ℕ → B) (b : B) (a n : ℕ)
    → fold f b (range_with_len a (n + 1)) ≡ f (fold f b (range_with_len a n)) (a + n)
fold-range_more f b a n = rw (add-one n, range_push a n) (fold_push f b (range_with_len a n) (a + n))
