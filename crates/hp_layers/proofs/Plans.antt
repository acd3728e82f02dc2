-- Plans: what is looked for in them, item by item, and how many blocks they name.
use Rattle.std.proofs.Common.{◌≡◌, ℕ, zero, suc, ◌+◌, ◌<◌, ◌≤◌, ◌||◌, List, [], ◌∷◌, length, get_or, drop, Bool, true, false, cond, Option, Some, None, refl, sym, ◌∙◌, ap, arith, inl, inr, map, add-one, ne_eqb}
use Rattle.std.specs.Prelude.{nat_le}
use Rattle.std.specs.List.{find, list_any}
use Rattle.std.specs.Option.{is_some, option_map, option_or}
use Rattle.std.proofs.Math.Seq.{drop-cons}
use Rattle.std.proofs.lemmas.Bool.{cases_eq, cases_lt, le-leb}
use Rattle.hp_units.specs.declared.plans.Item.{Item}
use Rattle.hp_units.specs.declared.replies.Refusal.{Refusal}
use Rattle.hp_units.specs.declared.replies.Refusal.TheVariants.{Busy}
use Rattle.hp_units.specs.LayoutParts.{LayoutParts}
use Rattle.hp_units.specs.Choices.{first_some}
use Rattle.hp_units.specs.Rows.{wish_of}
use Rattle.hp_plain.specs.Plans.{names_no_block}
use Rattle.hp_layers.specs.Operations.{claimed_at, claimed_below}

-- if no item's block is claimed, the first refusal is one of the later ones
pub none_claimed : (item : Option Item) (rest : Option Refusal) → None ≡ option_map (λ item. item.block) item
    → option_or (option_map (λ item. Busy item.block) item) rest ≡ rest
none_claimed None rest e = refl
none_claimed (Some item) rest e = cc

-- ---- item by item

-- the block of the first item that passes a test among those that are left
pub found-step : (p : Item → Bool) (plan : List Item) (i : ℕ) (item : Item) (found : Bool) → i < length plan
    → item ≡ get_or plan i item → p item ≡ found
    → option_map (λ item. item.block) (find p (drop i plan))
    ≡ cond found (Some item.block) (option_map (λ item. item.block) (find p (drop (i + 1) plan)))
found-step p plan i item found low here e =
    ap (λ (xs : List Item). option_map (λ item. item.block) (find p xs))
    (drop-cons plan i item low ∙ ap (λ (k : ℕ). get_or plan i item ∷ drop k plan) (sym (add-one i)))
    ∙ (ap (λ (x : Item). option_map (λ item. item.block) (find p (x ∷ drop (i + 1) plan))) (sym here)
    ∙ tested (p item) found e)
  where
    tested : (b c : Bool) → b ≡ c
        → option_map (λ item. item.block) (cond b (Some item) (find p (drop (i + 1) plan)))
        ≡ cond c (Some item.block) (option_map (λ item. item.block) (find p (drop (i + 1) plan)))
    tested true true f = refl
    tested false false f = refl
    tested true false f = absurd cc
    tested false true f = absurd cc

-- the first answer among those of the items that are left
pub answer-step : {A : Type 0} (f : Item → Option A) (plan : List Item) (i : ℕ) (item : Item)
    (answer : Option A)
    → i < length plan → item ≡ get_or plan i item → answer ≡ f item
    → first_some (map f (drop i plan)) ≡ option_or answer (first_some (map f (drop (i + 1) plan)))
answer-step {A} f plan i item answer low here e =
    ap (λ (xs : List Item). first_some (map f xs))
    (drop-cons plan i item low ∙ ap (λ (k : ℕ). get_or plan i item ∷ drop k plan) (sym (add-one i)))
    ∙ (ap (λ (x : Item). option_or (f x) (first_some (map f (drop (i + 1) plan)))) (sym here)
    ∙ ap (λ (o : Option A). option_or o (first_some (map f (drop (i + 1) plan)))) (sym e))

-- ---- the blocks of the layout

-- if a plan names only blocks of the layout, each item's block is one of them
inside : (blocks : ℕ) (xs : List Item) (i : ℕ) (d : Item) → list_any (λ x. nat_le blocks x.block) xs ≡ false
    → i < length xs → (get_or xs i d).block < blocks
inside blocks [] i d none low = absurd (omega arith)
inside blocks (x ∷ xs) zero d none low = elim (cases_lt x.block blocks) [
  | inl below ↦ below
  | inr past ↦
      absurd (first (nat_le blocks x.block) (list_any (λ y. nat_le blocks y.block) xs)
      (le-leb blocks x.block past) none)
]
  where
    first : (b rest : Bool) → b ≡ true → (b || rest) ≡ false → ⊥
    first true rest e none = cc
    first false rest e none = cc
inside blocks (x ∷ xs) (suc i) d none low =
    inside blocks xs i d (rest (nat_le blocks x.block) (list_any (λ y. nat_le blocks y.block) xs) none)
    (omega arith)
  where
    rest : (b c : Bool) → (b || c) ≡ false → c ≡ false
    rest true c e = absurd cc
    rest false c e = e

pub item-within : (l : LayoutParts) (plan : List Item) (i : ℕ) (item : Item) → names_no_block l plan ≡ false
    → i < length plan → item ≡ get_or plan i item → item.block < l.blocks
item-within l plan i item none low here = rw here (inside l.blocks plan i item none low)

-- ---- how many blocks a plan names: no more than it has items

-- one more item adds only its own block
more-at : (item : Item) (plan : List Item) (block : ℕ) → (item.block ≡ block → ⊥)
    → claimed_at (item ∷ plan) block ≡ claimed_at plan block
more-at item plan block other = rw (ne_eqb item.block block other) refl

none-below : (item : Item) (plan : List Item) (n : ℕ) → n ≤ item.block
    → claimed_below (item ∷ plan) n ≤ claimed_below plan n
none-below item plan zero past = omega arith
none-below item plan (suc n) past =
    let same = more-at item plan n (λ here. omega arith) in
    omega (arith, none-below item plan n (omega arith), same)

at-most-one : (plan : List Item) (block : ℕ) → claimed_at plan block ≤ 1
at-most-one plan block = one (is_some (wish_of plan block))
  where
    one : (b : Bool) → cond b 1 0 ≤ 1
    one true = omega arith
    one false = omega arith

one-below : (item : Item) (plan : List Item) (n : ℕ)
    → claimed_below (item ∷ plan) n ≤ claimed_below plan n + 1
one-below item plan zero = omega arith
one-below item plan (suc n) = elim (cases_eq item.block n) [
  | inl here ↦
      let rest = none-below item plan n (omega arith) in
      omega (arith, rest, at-most-one (item ∷ plan) n)
  | inr other ↦
      let same = more-at item plan n other in
      omega (arith, one-below item plan n, same)
]

pub claimed-few : (plan : List Item) (n : ℕ) → claimed_below plan n ≤ length plan
claimed-few [] n = let none = nothing n in omega (arith, none)
  where
    nothing : (n : ℕ) → claimed_below [] n ≤ 0
    nothing zero = omega arith
    nothing (suc n) = let rest = nothing n in omega (arith, rest)
claimed-few (item ∷ plan) n =
    let more = one-below item plan n in
    omega (arith, claimed-few plan n, more)

pub claimed-below : (plan : List Item) (n : ℕ) → claimed_below plan n ≤ n
claimed-below plan zero = omega arith
claimed-below plan (suc n) =
    let one = at-most-one plan n in
    omega (arith, claimed-below plan n, one)
