-- The blocks that an operation holds are blocks of the layout.
use Rattle.std.proofs.Common.{◌≡◌, ℕ, zero, suc, ◌+◌, ◌<◌, ◌==◌, List, [], ◌∷◌, ◌++◌, length, get_or, Bool, true, cond, refl, ◌∙◌, ap, subst, arith, inl, inr, filter, eq-eqb, zero-add}
use Rattle.std.specs.List.{range_with_len}
use Rattle.std.proofs.lemmas.List.Folds.{list_any_at}
use Rattle.std.proofs.lemmas.Bool.{false≢true}
use Rattle.hp_units.specs.LayoutParts.{LayoutParts}
use Rattle.hp_units.specs.Arithmetic.{all_blocks}
use Rattle.hp_units.specs.Memory.{Blocks, row_of}
use Rattle.hp_units.specs.FreeAreas.{is_on}
use Rattle.hp_units.specs.Rows.{blocks_of, is_claimed_by}
use Rattle.hp_units.proofs.Lists.{on_cases}
use Rattle.hp_plain.proofs.Filters.{on-filter, filter-range_more}

-- each of the `n` numbers from `a` on is below `a + n`
range-below : (a n b : ℕ) → is_on b (range_with_len a n) ≡ true → b < a + n
range-below a zero b e = absurd (false≢true e)
range-below a (suc n) b e = elim (on_cases b a (range_with_len (a + 1) n) e) [
  | inl same ↦ omega arith
  | inr rest ↦ let h : b < a + 1 + n = range-below (a + 1) n b rest in omega arith
]

-- the blocks that an operation holds are of the layout
pub blocks_of-below : (l : LayoutParts) (bs : Blocks) (op : ℕ) (blocks : List ℕ) → blocks ≡ blocks_of l bs op
    → (k : ℕ) → k < length blocks → get_or blocks k 0 < l.blocks
blocks_of-below l bs op blocks e k below =
    let p : ℕ → Bool = λ (block : ℕ). is_claimed_by op (row_of bs block) in
    let on : is_on (get_or blocks k 0) (blocks_of l bs op) ≡ true =
    subst (λ (xs : List ℕ). is_on (get_or blocks k 0) xs ≡ true) e (list_any_at (λ other. other == get_or
    blocks k 0) blocks k 0 below (eq-eqb (get_or blocks k 0) (get_or blocks k 0) refl)) in
    let h : get_or blocks k 0 < 0 + l.blocks =
    range-below 0 l.blocks (get_or blocks k 0) (on-filter p (get_or blocks k 0) (all_blocks l) on) in
    omega arith

-- a filter of the numbers below `n`, with one more number
pub filter-below_more : (p : ℕ → Bool) (n : ℕ) (keep : Bool) → p n ≡ keep
    → filter p (range_with_len 0 (n + 1)) ≡ filter p (range_with_len 0 n) ++ cond keep (n ∷ []) []
filter-below_more p n keep e = rw (filter-range_more p 0 n keep (ap p (zero-add n) ∙ e), zero-add n)
