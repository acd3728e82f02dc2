-- Codes that tell what they are the codes of apart, whatever stands after them.
use Rattle.std.proofs.Common.{ℕ, zero, suc, ◌≡◌, ◌+◌, ◌*◌, ◌/◌, ◌^◌, ◌<◌, ◌≤◌, ◌==◌, List, [], ◌∷◌, ◌++◌, Option, None, Some, length, refl, sym, ◌∙◌, ap, subst, arith, inl, inr, append_assoc, eq-eqb, ne_eqb}
use Rattle.std.proofs.lemmas.Bool.{cases_Bool, cases_eq, cases_lt, cond-true, cond-false, ltb-true}
use Rattle.std.specs.List.{flat_map, range_with_len}
use Rattle.std.specs.Prelude.{nat_lt}
use Rattle.hp_states.specs.Numbers.{low_bytes, wide_code, number_code, option_code}
use Rattle.hp_states.specs.Parts.{counted_code, gapped_code, kernel_code, lists_code, odd_page_code, page_code, words_code}

-- of two codes with anything after them: where they are equal, they are of the same, and so is what
-- follows
abbrev pub TellsApart : {A : Type 0} → (A → List ℕ) → Type 0
TellsApart {A} code =
    (a b : A) (xs ys : List ℕ) → code a ++ xs ≡ code b ++ ys → (a ≡ b) × (xs ≡ ys)

pub heads : {a b : ℕ} {xs ys : List ℕ} → a ∷ xs ≡ b ∷ ys → (a ≡ b) × (xs ≡ ys)
heads e = ((cc), (cc))

-- ---- numbers

low_bytes-apart : (more : ℕ) → TellsApart (low_bytes more)
low_bytes-apart zero a b xs ys e = heads e
low_bytes-apart (suc more) a b xs ys e =
    let h = heads e in
    let rest = low_bytes-apart more (a / 256) (b / 256) xs ys h.1 in
    (omega (arith, h.0, rest.0), rest.1)

-- how many bytes more than one stand after a mark above 252
abbrev after_mark : ℕ → ℕ
after_mark zero = 1
after_mark (suc zero) = 3
after_mark (suc (suc n)) = 7

-- a number is one byte, or a mark and its bytes
data Form (n : ℕ) : Type 0 where
  small : n < 253 → number_code n ≡ n ∷ [] → Form n
  wide : (k : ℕ) → number_code n ≡ (253 + k) ∷ low_bytes (after_mark k) n → Form n

form_of : (n : ℕ) → Form n
unfolding number_code
form_of n = elim (cases_Bool (nat_lt n 253)) [
  | inl low ↦ small (ltb-true n 253 low) (cond-true (nat_lt n 253) (n ∷ []) (wide_code n) low)
  | inr more ↦ wide_form (cond-false (nat_lt n 253) (n ∷ []) (wide_code n) more)
]
  where
    wide_form : number_code n ≡ wide_code n → Form n
    wide_form is = elim (cases_Bool (nat_lt n (2 ^ 16))) [
      | inl low ↦ wide 0 (is ∙ rw low refl)
      | inr more ↦ elim (cases_Bool (nat_lt n (2 ^ 32))) [
        | inl low ↦ wide 1 (is ∙ rw (more, low) refl)
        | inr most ↦ wide 2 (is ∙ rw (more, most) refl)
      ]
    ]

-- the codes of two numbers by their forms
by_forms : (a b : ℕ) → Form a → Form b → (xs ys : List ℕ) → number_code a ++ xs ≡ number_code b ++ ys
    → (a ≡ b) × (xs ≡ ys)
by_forms a b (small low is) (small below also) xs ys e = heads (rw (is, also) at e)
by_forms a b (small low is) (wide k also) xs ys e =
    let h = heads (rw (is, also) at e) in
    absurd (omega (arith, h.0))
by_forms a b (wide j is) (small below also) xs ys e =
    let h = heads (rw (is, also) at e) in
    absurd (omega (arith, h.0))
by_forms a b (wide j is) (wide k also) xs ys e =
    let h = heads (rw (is, also) at e) in
    let same : k ≡ j = omega (arith, h.0) in
    low_bytes-apart (after_mark j) a b xs ys (rw same at h.1)

pub number-apart : TellsApart number_code
number-apart a b xs ys e = by_forms a b (form_of a) (form_of b) xs ys e

-- ---- options

pub option-apart : TellsApart option_code
option-apart None None xs ys e = (refl, (number-apart 0 0 xs ys e).1)
option-apart None (Some b) xs ys e = absurd (omega (arith, (number-apart 0 (b + 1) xs ys e).0))
option-apart (Some a) None xs ys e = absurd (omega (arith, (number-apart (a + 1) 0 xs ys e).0))
option-apart (Some a) (Some b) xs ys e =
    let h = number-apart (a + 1) (b + 1) xs ys e in
    (ap Some (omega (arith, h.0)), h.1)

-- ---- many, one after another

-- us many of each
pub many-apart : {A : Type 0} (code : A → List ℕ) → TellsApart code → (us vs : List A) (xs ys : List ℕ)
    → length us ≡ length vs → flat_map code us ++ xs ≡ flat_map code vs ++ ys → (us ≡ vs) × (xs ≡ ys)
many-apart code tells [] [] xs ys size e = (refl, e)
many-apart code tells (a ∷ us) (b ∷ vs) xs ys size e =
    let first = tells a b _ _ (simp append_assoc at e) in
    let rest = many-apart code tells us vs xs ys (omega arith) first.1 in
    (cc, rest.1)
many-apart code tells _ _ xs ys size e = absurd (omega arith)

-- codes of the numbers from one number on, as many of each: what they tell of each number holds of all
pub range-apart : (f g : ℕ → List ℕ) (R : ℕ → Type 0)
    → ((k : ℕ) (xs ys : List ℕ) → f k ++ xs ≡ g k ++ ys → R k × (xs ≡ ys))
    → (from count : ℕ) (xs ys : List ℕ)
    → flat_map f (range_with_len from count) ++ xs ≡ flat_map g (range_with_len from count) ++ ys
    → ((k : ℕ) → from ≤ k → k < from + count → R k) × (xs ≡ ys)
range-apart f g R tells from zero xs ys e = (λ k low high. absurd (omega (arith, low, high)), e)
range-apart f g R tells from (suc count) xs ys e =
    let first = tells from _ _ (simp append_assoc at e) in
    let rest = range-apart f g R tells (from + 1) count xs ys first.1 in (
      λ k low high. elim (cases_lt from k) [
        | inl less ↦ rest.0 k (omega (arith, less)) (omega (arith, high))
        | inr past ↦ (let here : from ≡ k = omega (arith, low, past) in subst R here first.0)
      ],
      rest.1,
    )

-- numbers with their count, or a number of it, in front
numbers-apart : (m n : ℕ) (us vs : List ℕ) (xs ys : List ℕ) → (m ≡ n → length us ≡ length vs)
    → (number_code m ++ flat_map number_code us) ++ xs ≡ (number_code n ++ flat_map number_code vs) ++ ys
    → (us ≡ vs) × (xs ≡ ys)
numbers-apart m n us vs xs ys size e =
    let count = number-apart m n _ _ (simp append_assoc at e) in
    many-apart number_code number-apart us vs xs ys (size count.0) count.1

pub counted-apart : TellsApart counted_code
counted-apart us vs xs ys e = numbers-apart (length us) (length vs) us vs xs ys (λ same. same) e

pub words-apart : TellsApart words_code
words-apart None None xs ys e = (refl, (number-apart 0 0 xs ys e).1)
words-apart None (Some vs) xs ys e =
    absurd (omega (arith, (number-apart 0 (length vs + 1) xs _ (simp append_assoc at e)).0))
words-apart (Some us) None xs ys e =
    absurd (omega (arith, (number-apart (length us + 1) 0 _ ys (simp append_assoc at e)).0))
words-apart (Some us) (Some vs) xs ys e =
    let h = numbers-apart (length us + 1) (length vs + 1) us vs xs ys (λ same. omega arith) e in
    (cc, h.1)

-- ---- pages

-- a page is not mapped, or has a frame and as many words as the layout says, or is odd
data PageForm (count : ℕ) (frame : Option ℕ) (words : Option (List ℕ)) : Type 0 where
  unmapped : frame ≡ None → words ≡ None → page_code count frame words ≡ number_code 0
      → PageForm count frame words
  mapped : (f : ℕ) (ws : List ℕ) → frame ≡ Some f → words ≡ Some ws → length ws ≡ count
      → page_code count frame words ≡ number_code (f + 2) ++ flat_map number_code ws
      → PageForm count frame words
  odd : page_code count frame words ≡ odd_page_code frame words → PageForm count frame words

page_form : (count : ℕ) (frame : Option ℕ) (words : Option (List ℕ)) → PageForm count frame words
page_form count None None = unmapped refl refl refl
page_form count None (Some ws) = odd refl
page_form count (Some f) None = odd refl
page_form count (Some f) (Some ws) = elim (cases_eq (length ws) count) [
  | inl same ↦ mapped f ws refl refl same (cond-true (length ws == count) _ _ (eq-eqb _ _ same))
  | inr apart ↦ odd (cond-false (length ws == count) _ _ (ne_eqb _ _ apart))
]

-- the codes of two pages by their forms
pages_by_forms : (count : ℕ) (f g : Option ℕ) (u v : Option (List ℕ)) (xs ys : List ℕ)
    → PageForm count f u → PageForm count g v → page_code count f u ++ xs ≡ page_code count g v ++ ys
    → ((f ≡ g) × (u ≡ v)) × (xs ≡ ys)
pages_by_forms count f g u v xs ys (unmapped a b c) (unmapped p q r) e =
    ((a ∙ sym p, b ∙ sym q), (number-apart 0 0 xs ys (rw (c, r) at e)).1)
pages_by_forms count f g u v xs ys (unmapped a b c) (mapped frame ws p q many r) e =
    absurd (omega (arith, (number-apart 0 (frame + 2) xs _ (simp append_assoc at (rw (c, r) at e))).0))
pages_by_forms count f g u v xs ys (unmapped a b c) (odd r) e =
    absurd (omega (arith, (number-apart 0 1 xs _ (simp append_assoc at (rw (c, r) at e))).0))
pages_by_forms count f g u v xs ys (mapped frame ws a b many c) (unmapped p q r) e =
    absurd (omega (arith, (number-apart (frame + 2) 0 _ ys (simp append_assoc at (rw (c, r) at e))).0))
pages_by_forms count f g u v xs ys (mapped frame ws a b many c) (mapped other vs p q also r) e =
    let first = number-apart (frame + 2) (other + 2) _ _ (simp append_assoc at (rw (c, r) at e)) in
    let rest = many-apart number_code number-apart ws vs xs ys (many ∙ sym also) first.1 in
    let frames : frame ≡ other = omega (arith, first.0) in
    ((a ∙ (ap Some frames ∙ sym p), b ∙ (ap Some rest.0 ∙ sym q)), rest.1)
pages_by_forms count f g u v xs ys (mapped frame ws a b many c) (odd r) e =
    absurd (omega (arith, (number-apart (frame + 2) 1 _ _ (simp append_assoc at (rw (c, r) at e))).0))
pages_by_forms count f g u v xs ys (odd c) (unmapped p q r) e =
    absurd (omega (arith, (number-apart 1 0 _ ys (simp append_assoc at (rw (c, r) at e))).0))
pages_by_forms count f g u v xs ys (odd c) (mapped frame ws p q many r) e =
    absurd (omega (arith, (number-apart 1 (frame + 2) _ _ (simp append_assoc at (rw (c, r) at e))).0))
pages_by_forms count f g u v xs ys (odd c) (odd r) e =
    let first = number-apart 1 1 _ _ (simp append_assoc at (rw (c, r) at e)) in
    let frames = option-apart f g _ _ first.1 in
    let words = words-apart u v xs ys frames.1 in
    ((frames.0, words.0), words.1)

pub page-apart : (count : ℕ) (f g : Option ℕ) (u v : Option (List ℕ)) (xs ys : List ℕ)
    → page_code count f u ++ xs ≡ page_code count g v ++ ys → ((f ≡ g) × (u ≡ v)) × (xs ≡ ys)
page-apart count f g u v xs ys e =
    pages_by_forms count f g u v xs ys (page_form count f u) (page_form count g v) e

-- ---- numbers after a gap

data GapForm (gap order : ℕ) : Type 0 where
  low : order < 14 → gapped_code gap order ≡ number_code (16 * gap + order + 1) → GapForm gap order
  high : gapped_code gap order ≡ number_code (16 * gap + 15) ++ number_code order → GapForm gap order

gap_form : (gap order : ℕ) → GapForm gap order
gap_form gap order = elim (cases_Bool (nat_lt order 14)) [
  | inl less ↦ low (ltb-true order 14 less) (cond-true (nat_lt order 14) _ _ less)
  | inr more ↦ high (cond-false (nat_lt order 14) _ _ more)
]

gapped_by_forms : (gap a b : ℕ) (xs ys : List ℕ) → GapForm gap a → GapForm gap b
    → gapped_code gap a ++ xs ≡ gapped_code gap b ++ ys → (a ≡ b) × (xs ≡ ys)
gapped_by_forms gap a b xs ys (low less is) (low below also) e =
    let h = number-apart (16 * gap + a + 1) (16 * gap + b + 1) xs ys (rw (is, also) at e) in
    (omega (arith, h.0), h.1)
gapped_by_forms gap a b xs ys (low less is) (high also) e =
    let h =
    number-apart (16 * gap + a + 1) (16 * gap + 15) xs _ (simp append_assoc at (rw (is, also) at e)) in
    absurd (omega (arith, less, h.0))
gapped_by_forms gap a b xs ys (high is) (low below also) e =
    let h =
    number-apart (16 * gap + 15) (16 * gap + b + 1) _ ys (simp append_assoc at (rw (is, also) at e)) in
    absurd (omega (arith, below, h.0))
gapped_by_forms gap a b xs ys (high is) (high also) e =
    let h =
    number-apart (16 * gap + 15) (16 * gap + 15) _ _ (simp append_assoc at (rw (is, also) at e)) in
    number-apart a b xs ys h.1

-- the number that a code begins with, and what follows it
record Begins (low high : ℕ) (code : List ℕ) : Type 0 where
  number : ℕ
  rest : List ℕ
  at_least : low ≤ number
  at_most : number ≤ high
  is : code ≡ number_code number ++ rest

gapped_begins : (gap order : ℕ) (xs : List ℕ) → GapForm gap order
    → Begins (16 * gap + 1) (16 * gap + 15) (gapped_code gap order ++ xs)
gapped_begins gap order xs (low less is) = record {
  number = 16 * gap + order + 1;
  rest = xs;
  at_least = omega arith;
  at_most = omega (arith, less);
  is = rw is refl;
}
gapped_begins gap order xs (high is) = record {
  number = 16 * gap + 15;
  rest = number_code order ++ xs;
  at_least = omega arith;
  at_most = omega arith;
  is = rw is (append_assoc (number_code (16 * gap + 15)) (number_code order) xs);
}

-- ---- kernel blocks

-- a code after a gap begins with a number of this gap or of a greater one
after_gap : (gap : ℕ) (orders : List (Option ℕ)) (xs : List ℕ)
    → (n : ℕ) × (rest : List ℕ) × (16 * gap ≤ n) × (kernel_code gap orders ++ xs ≡ number_code n ++ rest)
after_gap gap [] xs = (16 * gap, xs, omega arith, refl)
after_gap gap (None ∷ orders) xs =
    let h = after_gap (gap + 1) orders xs in
    (h.0, h.1, omega (arith, h.2), h.3)
after_gap gap (Some order ∷ orders) xs =
    let h = gapped_begins gap order (kernel_code 0 orders ++ xs) (gap_form gap order) in (
      h.number,
      h.rest,
      omega (arith, h.at_least),
      append_assoc (gapped_code gap order) (kernel_code 0 orders) xs ∙ h.is,
    )

-- no code with a start right here is one with none
starts_here : (gap order : ℕ) (us vs : List (Option ℕ)) (xs ys : List ℕ)
    → kernel_code gap (Some order ∷ us) ++ xs ≡ kernel_code (gap + 1) vs ++ ys → ⊥
starts_here gap order us vs xs ys e =
    let h = gapped_begins gap order (kernel_code 0 us ++ xs) (gap_form gap order) in
    let k = after_gap (gap + 1) vs ys in
    let same = number-apart h.number k.0 h.rest k.1
    (sym h.is ∙ (sym (append_assoc (gapped_code gap order) (kernel_code 0 us) xs) ∙ (e ∙ k.3))) in
    absurd (omega (arith, same.0, h.at_most, k.2))

pub kernel-apart : (gap : ℕ) (us vs : List (Option ℕ)) (xs ys : List ℕ) → length us ≡ length vs
    → kernel_code gap us ++ xs ≡ kernel_code gap vs ++ ys → (us ≡ vs) × (xs ≡ ys)
kernel-apart gap [] [] xs ys size e = (refl, (number-apart (16 * gap) (16 * gap) xs ys e).1)
kernel-apart gap (None ∷ us) (None ∷ vs) xs ys size e =
    let h = kernel-apart (gap + 1) us vs xs ys (omega arith) e in
    (ap (λ (orders : List (Option ℕ)). None ∷ orders) h.0, h.1)
kernel-apart gap (None ∷ us) (Some b ∷ vs) xs ys size e = absurd (starts_here gap b vs us ys xs (sym e))
kernel-apart gap (Some a ∷ us) (None ∷ vs) xs ys size e = absurd (starts_here gap a us vs xs ys e)
kernel-apart gap (Some a ∷ us) (Some b ∷ vs) xs ys size e =
    let first = gapped_by_forms gap a b _ _ (gap_form gap a) (gap_form gap b)
    (simp append_assoc at e) in
    let rest = kernel-apart 0 us vs xs ys (omega arith) first.1 in
    (cc, rest.1)
kernel-apart gap _ _ xs ys size e = absurd (omega arith)

-- ---- lists, of which the empty ones are left out

-- the code of a list that is not empty, and of those after it
list_parts : (gap n : ℕ) (ns : List ℕ) (lists : List (List ℕ)) (xs : List ℕ)
    → lists_code gap ((n ∷ ns) ∷ lists) ++ xs
    ≡ gapped_code gap (length (n ∷ ns)) ++ (flat_map number_code (n ∷ ns) ++ (lists_code 0 lists ++ xs))
list_parts gap n ns lists xs = simp append_assoc

-- a code after a gap begins with a number of this gap or of a greater one
after_empty : (gap : ℕ) (lists : List (List ℕ)) (xs : List ℕ)
    → (n : ℕ) × (rest : List ℕ) × (16 * gap ≤ n) × (lists_code gap lists ++ xs ≡ number_code n ++ rest)
after_empty gap [] xs = (16 * gap, xs, omega arith, refl)
after_empty gap ([] ∷ lists) xs =
    let h = after_empty (gap + 1) lists xs in
    (h.0, h.1, omega (arith, h.2), h.3)
after_empty gap ((n ∷ ns) ∷ lists) xs =
    let h = gapped_begins gap (length (n ∷ ns)) (flat_map number_code (n ∷ ns) ++ (lists_code 0 lists ++ xs))
    (gap_form gap (length (n ∷ ns))) in
    (h.number, h.rest, omega (arith, h.at_least), list_parts gap n ns lists xs ∙ h.is)

-- no code with a list right here is one with an empty list here
list_here : (gap n : ℕ) (ns : List ℕ) (us vs : List (List ℕ)) (xs ys : List ℕ)
    → lists_code gap ((n ∷ ns) ∷ us) ++ xs ≡ lists_code (gap + 1) vs ++ ys → ⊥
list_here gap n ns us vs xs ys e =
    let h = gapped_begins gap (length (n ∷ ns)) (flat_map number_code (n ∷ ns) ++ (lists_code 0 us ++ xs))
    (gap_form gap (length (n ∷ ns))) in
    let k = after_empty (gap + 1) vs ys in
    let same = number-apart h.number k.0 h.rest k.1
    (sym h.is ∙ (sym (list_parts gap n ns us xs) ∙ (e ∙ k.3))) in
    absurd (omega (arith, same.0, h.at_most, k.2))

pub lists-apart : (gap : ℕ) (us vs : List (List ℕ)) (xs ys : List ℕ) → length us ≡ length vs
    → lists_code gap us ++ xs ≡ lists_code gap vs ++ ys → (us ≡ vs) × (xs ≡ ys)
lists-apart gap [] [] xs ys size e = (refl, (number-apart (16 * gap) (16 * gap) xs ys e).1)
lists-apart gap ([] ∷ us) ([] ∷ vs) xs ys size e =
    let h = lists-apart (gap + 1) us vs xs ys (omega arith) e in
    (ap (λ (lists : List (List ℕ)). [] ∷ lists) h.0, h.1)
lists-apart gap ([] ∷ us) ((n ∷ ns) ∷ vs) xs ys size e = absurd (list_here gap n ns vs us ys xs (sym e))
lists-apart gap ((m ∷ ms) ∷ us) ([] ∷ vs) xs ys size e = absurd (list_here gap m ms us vs xs ys e)
lists-apart gap ((m ∷ ms) ∷ us) ((n ∷ ns) ∷ vs) xs ys size e =
    let first = gapped_by_forms gap (length (m ∷ ms)) (length (n ∷ ns)) _ _ (gap_form gap (length (m ∷ ms)))
    (gap_form gap (length (n ∷ ns)))
    (sym (list_parts gap m ms us xs) ∙ (e ∙ list_parts gap n ns vs ys)) in
    let here = many-apart number_code number-apart (m ∷ ms) (n ∷ ns) _ _ first.0 first.1 in
    let rest = lists-apart 0 us vs xs ys (omega arith) here.1 in
    (cc, rest.1)
lists-apart gap _ _ xs ys size e = absurd (omega arith)
