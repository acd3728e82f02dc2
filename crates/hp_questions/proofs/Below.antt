-- What holds of each item of a list up to a place, and the answer of a test.
use Rattle.std.proofs.Common.{◌≡◌, ℕ, ◌+◌, ◌<◌, ◌≤◌, true, false, List, length, get_or, Some, slice_get, refl, arith}
use Rattle.std.specs.Prelude.{◌↔◌, IsTrue}
use Rattle.std.proofs.lemmas.Bool.{cases_lt}
use Rattle.std.proofs.lemmas.Option.{slice_get_read, slice_get_within}
use Rattle.hp_questions.proofs.Places.{HasOne}

-- it holds of each item below a place
abbrev pub Below : {X : Type 0} → (Q : X → Type 0) → List X → (place : ℕ) → Type 0
Below {X} Q xs place = (k : ℕ) (x : X) → k < place → slice_get xs k ≡ Some x → Q x

-- of one item more
below_more : {X : Type 0} (Q : X → Type 0) (xs : List X) (place : ℕ) (x : X) → Below Q xs place
    → slice_get xs place ≡ Some x → Q x → Below Q xs (place + 1)
below_more Q xs place x below here holds k y less at = grind (arith, cases_lt k place, below k y)

-- of all
pub below_all : {X : Type 0} (Q : X → Type 0) (xs : List X) (place : ℕ) → length xs ≤ place
    → Below Q xs place → (k : ℕ) (x : X) → slice_get xs k ≡ Some x → Q x
below_all Q xs place all below k x at = below k x (omega (arith, slice_get_within xs k x at)) at

-- a test that says yes, and one that says no
pub told_yes : (P : Type 0) → P → IsTrue true ↔ P
told_yes P p = (λ told. p, λ held. refl)

pub told_no : (P : Type 0) → (P → ⊥) → IsTrue false ↔ P
told_no P none = (λ told. absurd cc, λ held. absurd (none held))

-- ---- where a list is read at a place

pub read_here : {X : Type 0} (xs : List X) (place : ℕ) (x : X) → place < length xs → x ≡ get_or xs place x
    → slice_get xs place ≡ Some x
read_here xs place x less read = slice_get_read xs (length xs) place x refl less read

-- a test says no there
pub none_more : {X : Type 0} (P : X → Type 0) (xs : List X) (place : ℕ) (x : X) → place < length xs
    → x ≡ get_or xs place x → IsTrue false ↔ P x → Below (λ y. P y → ⊥) xs place
    → Below (λ y. P y → ⊥) xs (place + 1)
none_more {X} P xs place x less read told below =
    below_more (λ (y : X). P y → ⊥) xs place x below (read_here xs place x less read)
    (λ holds. let f : false ≡ true = told.1 holds in cc)

-- a search of the items one by one that finds none with a property, and one that finds one
pub none_has : {X : Type 0} (Q : X → Type 0) (xs : List X) (place : ℕ) → length xs ≤ place
    → Below (λ x. Q x → ⊥) xs place → IsTrue false ↔ HasOne Q xs
none_has {X} Q xs place all below =
    told_no (HasOne Q xs)
    (λ has. below_all (λ (x : X). Q x → ⊥) xs place all below has.0 has.1 has.2 has.3)

pub one_has : {X : Type 0} (Q : X → Type 0) (xs : List X) (place : ℕ) (x : X) → place < length xs
    → x ≡ get_or xs place x → Q x → IsTrue true ↔ HasOne Q xs
one_has Q xs place x less read holds =
    told_yes (HasOne Q xs) (place, x, read_here xs place x less read, holds)
