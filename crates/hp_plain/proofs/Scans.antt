-- One more step in a search over numbers, and over the entries of a list.
use Rattle.std.proofs.Common.{◌≡◌, ℕ, suc, ◌+◌, ◌<◌, ◌==◌, List, [], ◌∷◌, ◌++◌, length, get_or, take, drop, Bool, true, false, cond, ◌||◌, Some, refl, sym, ◌∙◌, ap, add-one, zero-add}
use Rattle.std.specs.List.{find, flat_map, fold, list_any, range_with_len}
use Rattle.std.specs.Option.{option_or}
use Rattle.std.proofs.Math.Seq.{drop-cons}
use Rattle.std.proofs.lemmas.List.{take_more}
use Rattle.std.proofs.lemmas.List.Folds.{find-append}
use Rattle.hp_units.specs.declared.plans.Item.{Item}
use Rattle.hp_units.specs.FreeAreas.{is_on}
use Rattle.hp_units.specs.Refusals.{first_repeated}
use Rattle.hp_plain.specs.Plans.{blocks_in}
use Rattle.hp_plain.proofs.Ranges.{fold-range_more}

-- ---- numbers from one on

-- a fold over the numbers below `n`, with one more number
pub fold-below_more : {B : Type 0} (f : B → ℕ → B) (b : B) (n : ℕ)
    → fold f b (range_with_len 0 (n + 1)) ≡ f (fold f b (range_with_len 0 n)) n
fold-below_more f b n = fold-range_more f b 0 n ∙ ap (f (fold f b (range_with_len 0 n))) (zero-add n)

-- ---- the entries of a list

-- the first number that passes a test among those of the entries that are left
pub find-flat_step : {X : Type 0} (p : ℕ → Bool) (f : X → List ℕ) (xs : List X) (i : ℕ) (d : X)
    → i < length xs
    → find p (flat_map f (drop i xs))
    ≡ option_or (find p (f (get_or xs i d))) (find p (flat_map f (drop (i + 1) xs)))
find-flat_step {X} p f xs i d h =
    rw (drop-cons xs i d h, find-append p (f (get_or xs i d)) (flat_map f (drop (suc i) xs)))
    (rw (← add-one i))

-- ---- the blocks of a plan

-- a block among the blocks of items in front of others
stands : (block : ℕ) (before : List ℕ) (items : List Item)
    → is_on block (blocks_in before items)
    ≡ (list_any (λ item. item.block == block) items || is_on block before)
stands block before [] = refl
stands block before (item ∷ items) =
    stands block (item.block ∷ before) items
    ∙ turn (item.block == block) (list_any (λ other. other.block == block) items) (is_on block before)
  where
    turn : (x y z : Bool) → (y || (x || z)) ≡ ((x || y) || z)
    turn true true z = refl
    turn true false z = refl
    turn false true z = refl
    turn false false z = refl

-- the blocks of items, with one more item
blocks_in-push : (before : List ℕ) (items : List Item) (item : Item)
    → blocks_in before (items ++ item ∷ []) ≡ item.block ∷ blocks_in before items
blocks_in-push before [] item = refl
blocks_in-push before (first ∷ items) item = blocks_in-push (first.block ∷ before) items item

-- one more item in the search for a block that is named a second time
pub repeated-step : (plan : List Item) (n : ℕ) (d : Item) (found : Bool) → n < length plan
    → found ≡ list_any (λ item. item.block == (get_or plan n d).block) (take n plan)
    → first_repeated (blocks_in [] (take n plan)) (drop n plan)
    ≡ cond found (Some (get_or plan n d).block)
    (first_repeated (blocks_in [] (take (n + 1) plan)) (drop (n + 1) plan))
repeated-step plan n d found h e =
    let item : Item = get_or plan n d in
    let before : List ℕ = blocks_in [] (take n plan) in
    let test : is_on item.block before ≡ found =
    stands item.block [] (take n plan)
    ∙ or_false (list_any (λ other. other.block == item.block) (take n plan)) ∙ sym e in
    let after : item.block ∷ before ≡ blocks_in [] (take (n + 1) plan) =
    sym (ap (blocks_in []) (take_more plan n d h) ∙ blocks_in-push [] (take n plan) item) in
    ap (first_repeated before) (drop-cons plan n d h ∙ ap (λ (k : ℕ). item ∷ drop k plan) (sym (add-one n)))
    ∙ ap (λ (b : Bool). cond b (Some item.block) (first_repeated (item.block ∷ before) (drop (n + 1) plan)))
    test
    ∙ ap (λ (bs : List ℕ). cond found (Some item.block) (first_repeated bs (drop (n + 1) plan))) after
  where
    or_false : (b : Bool) → (b || false) ≡ b
    or_false true = refl
    or_false false = refl
