-- The texts of numbers, one more after another.
use Rattle.std.proofs.Common.{◌≡◌, ℕ, ◌+◌, List, ◌++◌, sym, ap, ◌∙◌, append_assoc, append-nil, add-one}
use Rattle.std.specs.Fmt.{decimal}
use Rattle.hp_text.specs.State.{texts_below}

-- before the first number
pub texts_none : (text : ℕ → List ℕ) (old : List ℕ) → old ≡ old ++ texts_below text 0
unfolding texts_below
texts_none text old = sym (append-nil old)

-- one more number
pub texts_more : (text : ℕ → List ℕ) (n : ℕ) (old now new piece : List ℕ) → now ≡ old ++ texts_below text n
    → new ≡ now ++ piece → piece ≡ text n → new ≡ old ++ texts_below text (n + 1)
unfolding texts_below
texts_more text n old now new piece p q r =
    q ∙ ap (λ (l : List ℕ). now ++ l) r ∙ ap (λ (l : List ℕ). l ++ text n) p ∙ append_assoc old
    (texts_below text n) (text n) ∙ ap (λ (k : ℕ). old ++ texts_below text k) (sym (add-one n))

-- the head of the line of a mapped page, written piece by piece
pub head_written : (old s t u v new head name space at colon : List ℕ) (p f page frame : ℕ)
    → s ≡ old ++ head → t ≡ s ++ name → u ≡ t ++ (space ++ decimal p) → v ≡ u ++ at ++ decimal f
    → new ≡ v ++ colon → p ≡ page → f ≡ frame
    → new ≡ old ++ (head ++ name ++ space ++ decimal page ++ at ++ decimal frame ++ colon)
head_written old s t u v new head name space at colon p f page frame a b c d e i j =
    rw (e, d, c, b, a, i, j) (simp append_assoc)
