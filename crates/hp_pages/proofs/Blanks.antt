-- Words that are all 0, and the buffers that words need.
use Rattle.std.proofs.Common.{◌≡◌, ℕ, zero, suc, ◌<◌, Bool, true, false, List, [], ◌∷◌, drop, length, set, take, replicate, Some, None, refl, ap, arith}
use Rattle.std.specs.Prelude.{◌&&◌, ◌==◌, unwrap_or}
use Rattle.std.proofs.lemmas.Bool.{cases_Bool, cond-false, cond-true, eqb-true, ne_eqb}
use Rattle.hp_tape.specs.Deltas.{buffer_for, is_blank}

-- zeros are blank
pub zeros-blank : (n : ℕ) → is_blank (replicate n 0) ≡ true
zeros-blank zero = refl
zeros-blank (suc n) = zeros-blank n

-- and only zeros are
first-zero : (w : ℕ) (rest : Bool) → ((w == 0) && rest) ≡ true → w ≡ 0
first-zero w rest e = grind (arith, cases_Bool, eqb-true)

rest-blank : (b rest : Bool) → (b && rest) ≡ true → rest ≡ true
rest-blank b rest e = grind arith

pub blank-zeros : (words : List ℕ) → is_blank words ≡ true → words ≡ replicate (length words) 0
blank-zeros [] e = refl
blank-zeros (w ∷ ws) e =
    cc (first-zero w (is_blank ws) e, blank-zeros ws (rest-blank (w == 0) (is_blank ws) e))

-- a zero that is written again
pub set-zero : (n index : ℕ) → set {A = ℕ} (replicate n 0) index 0 ≡ replicate n 0
set-zero (suc n) (suc index) = ap (λ (xs : List ℕ). 0 ∷ xs) (set-zero n index)
set-zero _ _ = refl

-- a word that is written and is not 0: the words are not blank
pub set-some : (words : List ℕ) (index value : ℕ) → index < length words → (value ≡ 0 → ⊥)
    → is_blank (set words index value) ≡ false
set-some [] index value within some = absurd (omega arith)
set-some (w ∷ ws) zero value within some = ap (λ (b : Bool). b && is_blank ws) (ne_eqb value 0 some)
set-some (w ∷ ws) (suc index) value within some = grind (arith, set-some ws index value (omega arith) some)

-- words that are all 0 except one
and-assoc : (a b c : Bool) → (a && (b && c)) ≡ ((a && b) && c)
and-assoc a b c = grind arith

pub blank-beside : (words : List ℕ) (index : ℕ) → index < length words
    → is_blank (set words index 0) ≡ (is_blank (take index words) && is_blank (drop (suc index) words))
blank-beside [] index within = absurd (omega arith)
blank-beside (w ∷ ws) zero within = refl
blank-beside (w ∷ ws) (suc index) within = grind (arith, and-assoc, blank-beside ws index (omega arith))

-- ---- the buffer that words need

pub none-needed : (words : List ℕ) → is_blank words ≡ true → buffer_for words ≡ None
none-needed words blank = cond-true _ _ _ blank

pub some-needed : (words : List ℕ) → is_blank words ≡ false → buffer_for words ≡ Some words
some-needed words some = cond-false _ _ _ some

-- the words are read from the buffer
pub buffer-words : (n : ℕ) (words : List ℕ) → length words ≡ n
    → unwrap_or (buffer_for words) (replicate n 0) ≡ words
buffer-words n words size = grind (arith, cases_Bool, none-needed, blank-zeros, replicate, some-needed)
