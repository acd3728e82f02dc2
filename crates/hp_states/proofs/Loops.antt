-- Many codes, written one after another.
use Rattle.std.proofs.Common.{ℕ, zero, suc, ◌≡◌, ◌+◌, ◌*◌, ◌<◌, ◌≤◌, List, [], ◌∷◌, ◌++◌, Option, None, Some, length, get_or, take, drop, refl, sym, ◌∙◌, ap, arith, append_assoc}
use Rattle.std.proofs.lemmas.List.{flat_map_more, take_all, take_more}
use Rattle.std.proofs.lemmas.List.FromFn.{get_or-range_with_len, length-range_with_len}
use Rattle.std.specs.List.{flat_map, range_with_len}
use Rattle.hp_states.specs.Numbers.{number_code}
use Rattle.hp_states.specs.Parts.{gapped_code, IsListPut, kernel_code, lists_code}

-- the items from a place on
at_place : {X : Type 0} (xs : List X) (i : ℕ) (d : X) → i < length xs
    → drop i xs ≡ get_or xs i d ∷ drop (i + 1) xs
at_place [] i d low = absurd (omega (arith, low))
at_place (x ∷ xs) zero d low = refl
at_place {X} (x ∷ xs) (suc i) d low =
    let on : suc i + 1 ≡ suc (i + 1) = omega arith in
    at_place xs i d (omega arith) ∙ ap (λ (n : ℕ). get_or xs i d ∷ drop n (x ∷ xs)) (sym on)

past_all : {X : Type 0} (xs : List X) (i : ℕ) → length xs ≤ i → drop i xs ≡ []
past_all [] zero past = refl
past_all [] (suc i) past = refl
past_all (x ∷ xs) zero past = absurd (omega (arith, past))
past_all (x ∷ xs) (suc i) past = past_all xs i (omega arith)

-- one more
pub one_more : {X : Type 0} (f : X → List ℕ) (start before after : List ℕ) (xs : List X) (i : ℕ) (d : X)
    → i < length xs → before ≡ start ++ flat_map f (take i xs) → after ≡ before ++ f (get_or xs i d)
    → after ≡ start ++ flat_map f (take (i + 1) xs)
one_more f start before after xs i d low so_far e =
    rw (e, so_far, flat_map_more f start (take i xs) (get_or xs i d), ← take_more xs i d low)

-- all of them
pub all_of : {X : Type 0} (f : X → List ℕ) (start now : List ℕ) (xs : List X) (i : ℕ) → length xs ≤ i
    → now ≡ start ++ flat_map f (take i xs) → now ≡ start ++ flat_map f xs
all_of f start now xs i past so_far = rw (so_far, take_all i xs past)

-- ---- codes of the numbers below a count

-- one more
pub range_more : (f : ℕ → List ℕ) (start before after : List ℕ) (count i : ℕ) → i < count
    → before ≡ start ++ flat_map f (take i (range_with_len 0 count)) → after ≡ before ++ f i
    → after ≡ start ++ flat_map f (take (i + 1) (range_with_len 0 count))
range_more f start before after count i low so_far e =
    one_more f start before after (range_with_len 0 count) i 0
    (omega (arith, low, length-range_with_len 0 count)) so_far
    (let same : i ≡ get_or (range_with_len 0 count) i 0 =
    omega (arith, get_or-range_with_len 0 count i 0 low) in
    e ∙ ap (λ (n : ℕ). before ++ f n) same)

-- all of them
pub range_all : (f : ℕ → List ℕ) (start now : List ℕ) (count i : ℕ) → count ≤ i
    → now ≡ start ++ flat_map f (take i (range_with_len 0 count))
    → now ≡ start ++ flat_map f (range_with_len 0 count)
range_all f start now count i past so_far =
    all_of f start now (range_with_len 0 count) i (omega (arith, past, length-range_with_len 0 count)) so_far

-- ---- kernel blocks

-- a frame at which no block starts
pub gap_more : (orders : List (Option ℕ)) (i gap : ℕ) (code all : List ℕ) → i < length orders
    → get_or orders i None ≡ None → code ++ kernel_code gap (drop i orders) ≡ all
    → code ++ kernel_code (gap + 1) (drop (i + 1) orders) ≡ all
gap_more orders i gap code all low none so_far =
    ap (λ (rest : List (Option ℕ)). code ++ kernel_code gap rest)
    (sym (ap (λ (order : Option ℕ). order ∷ drop (i + 1) orders) none)
    ∙ sym (at_place orders i None low)) ∙ so_far

-- a frame at which one starts
pub start_more : (orders : List (Option ℕ)) (i gap order : ℕ) (before after all : List ℕ)
    → i < length orders → get_or orders i None ≡ Some order → after ≡ before ++ gapped_code gap order
    → before ++ kernel_code gap (drop i orders) ≡ all
    → after ++ kernel_code 0 (drop (i + 1) orders) ≡ all
start_more orders i gap order before after all low some e so_far =
    ap (λ (code : List ℕ). code ++ kernel_code 0 (drop (i + 1) orders)) e
    ∙ (append_assoc before (gapped_code gap order) (kernel_code 0 (drop (i + 1) orders))
    ∙ (ap (λ (rest : List (Option ℕ)). before ++ kernel_code gap rest)
    (sym (ap (λ (o : Option ℕ). o ∷ drop (i + 1) orders) some) ∙ sym (at_place orders i None low)) ∙ so_far))

-- all frames
pub frames_done : (orders : List (Option ℕ)) (i gap : ℕ) (before after all : List ℕ) → length orders ≤ i
    → after ≡ before ++ number_code (16 * gap) → before ++ kernel_code gap (drop i orders) ≡ all
    → after ≡ all
frames_done orders i gap before after all past e so_far =
    e ∙ (ap (λ (rest : List (Option ℕ)). before ++ kernel_code gap rest) (sym (past_all orders i past))
    ∙ so_far)

-- ---- lists, of which the empty ones are left out

-- an empty list
pub list_left : (numbers : List ℕ) (gap : ℕ) (code : List ℕ) → length numbers ≡ 0
    → IsListPut code code gap (gap + 1) numbers
list_left [] gap code none later = refl
list_left (n ∷ numbers) gap code none later = absurd (omega (arith, none))

-- one that is not
pub list_put : (numbers : List ℕ) (gap : ℕ) (old start new : List ℕ) → 1 ≤ length numbers
    → start ≡ old ++ gapped_code gap (length numbers) → new ≡ start ++ flat_map number_code numbers
    → IsListPut old new gap 0 numbers
list_put [] gap old start new some e f later = absurd (omega (arith, some))
list_put (n ∷ numbers) gap old start new some e f later = rw (f, e) (simp append_assoc)

-- one more
pub list_more : (lists : List (List ℕ)) (i gap next : ℕ) (before after all : List ℕ) → i < length lists
    → IsListPut before after gap next (get_or lists i [])
    → before ++ lists_code gap (drop i lists) ≡ all
    → after ++ lists_code next (drop (i + 1) lists) ≡ all
list_more lists i gap next before after all low put so_far =
    put (drop (i + 1) lists)
    ∙ (ap (λ (rest : List (List ℕ)). before ++ lists_code gap rest) (sym (at_place lists i [] low))
    ∙ so_far)

-- all of them
pub lists_done : (lists : List (List ℕ)) (i gap : ℕ) (before after all : List ℕ) → length lists ≤ i
    → after ≡ before ++ number_code (16 * gap) → before ++ lists_code gap (drop i lists) ≡ all
    → after ≡ all
lists_done lists i gap before after all past e so_far =
    e ∙ (ap (λ (rest : List (List ℕ)). before ++ lists_code gap rest) (sym (past_all lists i past))
    ∙ so_far)
