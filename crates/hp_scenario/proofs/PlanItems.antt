-- A loop over the words of a plan's items, two by two.
use Rattle.std.proofs.Common.{◌≡◌, ℕ, ◌-◌, ◌<◌, ◌≤◌, List, [], ◌∷◌, ◌++◌, length, get_or, eqb, false, take, drop, map, Bor, Option, Some, None, sym, ap, ◌∙◌, arith, length-drop}
use Rattle.std.proofs.lemmas.List.{append-nil, take_all}
use Rattle.hp_units.specs.declared.plans.Item.{Item}
use Rattle.hp_scenario.specs.Lines.{item_of, items_of}
use Rattle.hp_scenario.proofs.Each.{after_front, after_front_step}

abbrev pub bytes_of : List (Bor (List ℕ)) → List (List ℕ)
bytes_of words = map (λ w. w.now) words

-- the first two words, and the rest
two_words : (xs : List (Bor (List ℕ))) (d e : Bor (List ℕ)) → 2 ≤ length xs
    → bytes_of xs ≡ (get_or xs 0 d).now ∷ (get_or xs 1 e).now ∷ bytes_of (drop 2 xs)
two_words xs d e le = grind arith

tail_is : (xs : List (Bor (List ℕ))) (n : ℕ) → n ≡ length xs → take (n - 2) (drop 2 xs) ≡ drop 2 xs
tail_is xs n same = take_all _ _ (omega (arith, length-drop 2 xs))

pub item_goes_on : (xs : List (Bor (List ℕ))) (n : ℕ) (d e : Bor (List ℕ)) (r : Option Item) (x : Item)
    (front new : List Item) (total : Option (List Item))
    → 2 ≤ length xs → n ≡ length xs → r ≡ item_of (get_or xs 0 d).now (get_or xs 1 e).now → r ≡ Some x
    → new ≡ front ++ x ∷ []
    → after_front front (items_of (bytes_of xs)) ≡ total
    → after_front new (items_of (bytes_of (take (n - 2) (drop 2 xs)))) ≡ total
unfolding items_of
item_goes_on xs n d e r x front new total le same h some grown so_far =
    grind (arith, tail_is, after_front_step, after_front, two_words)

pub item_stops : (xs : List (Bor (List ℕ))) (d e : Bor (List ℕ)) (r : Option Item) (front : List Item)
    (total : Option (List Item))
    → 2 ≤ length xs → r ≡ item_of (get_or xs 0 d).now (get_or xs 1 e).now → r ≡ None
    → after_front front (items_of (bytes_of xs)) ≡ total → None ≡ total
unfolding items_of
item_stops xs d e r front total le h none so_far = grind (arith, two_words, after_front)

pub one_left : (xs : List (Bor (List ℕ))) (front : List Item) (total : Option (List Item)) → length xs < 2
    → eqb (length xs) 0 ≡ false → after_front front (items_of (bytes_of xs)) ≡ total → None ≡ total
unfolding items_of
one_left [] front total lt some so_far = absurd cc
one_left (x ∷ []) front total lt some so_far = so_far
one_left (x ∷ y ∷ rest) front total lt some so_far = absurd (omega arith)

pub none_left : (xs : List (Bor (List ℕ))) (front : List Item) (total : Option (List Item)) → length xs ≡ 0
    → after_front front (items_of (bytes_of xs)) ≡ total → Some front ≡ total
unfolding items_of
none_left [] front total none so_far = ap Some (sym (append-nil front)) ∙ so_far
none_left (x ∷ rest) front total none so_far = absurd (omega arith)
