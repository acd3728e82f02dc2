-- Marks, one place further: what a loop over places keeps.
use Rattle.std.proofs.Common.{◌≡◌, ℕ, zero, suc, ◌+◌, ◌<◌, ◌≤◌, ◌/◌, List, [], ◌∷◌, length, get_or, take, refl, sym, ◌∙◌, ap, subst, arith, inl, inr, ◌==◌, true, add-one}
use Rattle.std.specs.List.{enumerate_from, sum_by}
use Rattle.std.proofs.lemmas.Bool.{cases_lt, eq-eqb, false≢true, or_left}
use Rattle.std.proofs.lemmas.List.Sums.{sum_by-cons}
use Rattle.hp_units.specs.Placement.{list_places, places_from}
use Rattle.hp_units.specs.FreeAreas.{is_on}
use Rattle.hp_units.proofs.ListEdits.{on_cases, on_tail}
use Rattle.hp_plain.specs.Placing.{AreMarked, IsTwice, mark_of}

-- ---- a count over the entries of a list, by their numbers

abbrev pub total : {X : Type 0} → (ℕ → X → ℕ) → (from : ℕ) → List X → ℕ
total g from [] = 0
total g from (x ∷ xs) = g from x + total g (from + 1) xs

-- one entry further
total-more : {X : Type 0} (g : ℕ → X → ℕ) (from : ℕ) (xs : List X) (i n : ℕ) (d : X) → i < length xs
    → n ≡ from + i → total g from (take (suc i) xs) ≡ total g from (take i xs) + g n (get_or xs i d)
total-more g from [] i n d h e = absurd (omega arith)
total-more g from (x ∷ xs) zero n d h e = grind arith
total-more g from (x ∷ xs) (suc i) n d h e =
    omega (arith, total-more g (from + 1) xs i n d (omega arith) (omega arith))

-- an entry and those before it count no more than all
total-part : {X : Type 0} (g : ℕ → X → ℕ) (from : ℕ) (xs : List X) (i n : ℕ) (d : X) → i < length xs
    → n ≡ from + i → total g from (take i xs) + g n (get_or xs i d) ≤ total g from xs
total-part g from [] i n d h e = absurd (omega arith)
total-part g from (x ∷ xs) zero n d h e = grind arith
total-part g from (x ∷ xs) (suc i) n d h e =
    omega (arith, total-part g (from + 1) xs i n d (omega arith) (omega arith))

-- all of them
total-all : {X : Type 0} (g : ℕ → X → ℕ) (from : ℕ) (xs : List X)
    → total g from (take (length xs) xs) ≡ total g from xs
total-all g from [] = refl
total-all g from (x ∷ xs) = ap (λ (n : ℕ). g from x + n) (total-all g (from + 1) xs)

-- ---- what a loop over places keeps

-- what was asked of the entries so far holds, and the marks count them
pub record SoFar {X : Type 0} (g : ℕ → ℕ → X → ℕ) (Q : ℕ → X → Type 0) (xs : List X) (d : X) (i : ℕ)
    (old new : List ℕ) : Type 0 where
  pub each : (k : ℕ) → k < i → Q k (get_or xs k d)
  pub adds : (frame : ℕ) → mark_of new frame ≡ mark_of old frame + total (g frame) 0 (take i xs)

pub so_far_more : {X : Type 0} {g : ℕ → ℕ → X → ℕ} {Q : ℕ → X → Type 0} {xs : List X} {d : X} {i : ℕ}
    {old mid new : List ℕ}
    → SoFar g Q xs d i old mid → (x : X) → i < length xs → get_or xs i d ≡ x → Q i x
    → AreMarked mid new (λ frame. g frame i x)
    → SoFar g Q xs d (i + 1) old new
so_far_more {X} {g} {Q} {xs} {d} {i} {old} {mid} {new} h x low is q m =
    grind (arith, cases_lt, add-one, total-more)

-- a frame that the next entry has twice
pub so_far_twice : {X : Type 0} {g : ℕ → ℕ → X → ℕ} {Q : ℕ → X → Type 0} {xs : List X} {d : X} {i : ℕ}
    {old mid : List ℕ}
    → SoFar g Q xs d i old mid → (x : X) → i < length xs → get_or xs i d ≡ x
    → IsTwice mid (λ frame. g frame i x)
    → IsTwice old (λ frame. total (g frame) 0 xs)
so_far_twice {X} {g} {Q} {xs} {d} {i} {old} {mid} h x low is t = grind (arith, total-part)

pub so_far_all : {X : Type 0} {g : ℕ → ℕ → X → ℕ} {Q : ℕ → X → Type 0} {xs : List X} {d : X} {i : ℕ}
    {old new : List ℕ}
    → SoFar g Q xs d i old new → i ≡ length xs → AreMarked old new (λ frame. total (g frame) 0 xs)
so_far_all {X} {g} {Q} {xs} {d} {i} {old} {new} h all = grind (arith, total-all)

-- ---- the same places in other words

pub marked_as : {p : ℕ → ℕ} {old new : List ℕ} (q : ℕ → ℕ) → ((frame : ℕ) → p frame ≡ q frame)
    → AreMarked old new p → AreMarked old new q
marked_as {p} {old} {new} q same h = omega arith

pub twice_as : {p : ℕ → ℕ} {old : List ℕ} (q : ℕ → ℕ) → ((frame : ℕ) → p frame ≡ q frame)
    → IsTwice old p → IsTwice old q
twice_as {p} {old} q same h = grind arith

-- a sum over a list, also over its numbered entries
pub total-sum : {X : Type 0} (f : X → ℕ) (from : ℕ) (xs : List X) → total (λ k x. f x) from xs ≡ sum_by f xs
total-sum f from [] = refl
total-sum f from (x ∷ xs) = rw (total-sum f (from + 1) xs, ← sum_by-cons f x xs)

pub total-numbered : {X : Type 0} (g : ℕ → X → ℕ) (from : ℕ) (xs : List X)
    → total g from xs ≡ sum_by (λ (e : ℕ × X). g e.0 e.1) (enumerate_from from xs)
total-numbered {X} g from [] = refl
total-numbered {X} g from (x ∷ xs) =
    ap (λ (n : ℕ). g from x + n) (total-numbered g (from + 1) xs)
    ∙ sym (sum_by-cons (λ (e : ℕ × X). g e.0 e.1) (from, x) (enumerate_from (from + 1) xs))

pub total-lists : (frame from : ℕ) (lists : List (List ℕ))
    → total (λ number frames. list_places frame (number / 5) frames) from lists ≡ places_from frame from lists
total-lists frame from [] = refl
total-lists frame from (frames ∷ lists) = rw (total-lists frame (from + 1) lists)

-- ---- the entries of a list

-- what holds of each entry holds of each frame on the list, and each entry is on it
pub on_each : (Q : ℕ → Type 0) (xs : List ℕ) → ((k : ℕ) → k < length xs → Q (get_or xs k 0)) → (x : ℕ)
    → is_on x xs ≡ true → Q x
on_each Q [] h x on = absurd (false≢true on)
on_each Q (y ∷ ys) h x on = elim (on_cases x y ys on) [
  | inl same ↦ subst Q same (h 0 (omega arith))
  | inr there ↦ on_each Q ys (λ k low. h (suc k) (omega arith)) x there
]

pub entry_on : (xs : List ℕ) (i d : ℕ) → i < length xs → is_on (get_or xs i d) xs ≡ true
entry_on [] i d h = absurd (omega arith)
entry_on (x ∷ xs) zero d h = or_left (x == x) (is_on x xs) (eq-eqb x x refl)
entry_on (x ∷ xs) (suc i) d h = on_tail (get_or xs i d) x xs (entry_on xs i d (omega arith))
