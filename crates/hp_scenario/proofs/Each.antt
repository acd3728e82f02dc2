-- A loop over the values of a list, and what is left of the list.
use Rattle.std.proofs.Common.{◌≡◌, ℕ, ◌+◌, ◌<◌, ◌≤◌, List, [], ◌∷◌, ◌++◌, length, get_or, drop, Option, Some, None, Ok, Err, refl, append_assoc, add-one, option_map, option_and_then, arith}
use Rattle.std.proofs.Math.Seq.{drop-cons}
use Rattle.std.proofs.lemmas.List.{append-nil, drop_all}
use Rattle.serde_json.specs.Data.{Data, item}
use Rattle.serde_json.specs.View.{view, items_view}
use Rattle.serde_json.specs.declared.value.Value.{Value}
use Rattle.hp_scenario.specs.declared.fault.ScenarioFault.TheVariants.{BadShape}
use Rattle.hp_scenario.specs.Form.{each_in}
use Rattle.hp_scenario.specs.Gives.{or_fault}

-- what the front made, and then what the rest makes
abbrev pub after_front : {B : Type 0} → List B → Option (List B) → Option (List B)
after_front front rest = option_map (λ xs. front ++ xs) rest

pub after_front_step : {B : Type 0} (front : List B) (x : B) (r : Option (List B))
    → after_front front (option_and_then (λ xs. Some (x ∷ xs)) r) ≡ after_front (front ++ x ∷ []) r
after_front_step front x r = grind (arith, append_assoc)

at_index : (xs vs : List Value) (i : ℕ) (v : Value) → xs ≡ vs → i < length xs → v ≡ get_or xs i v
    → items_view (drop i vs) ≡ item (view v) (items_view (drop (i + 1) vs))
at_index xs vs i v same lt e = rw (← same, drop-cons xs i v lt, ← e, add-one) refl

pub goes_on : {B : Type 0} (f : Data → Option B) (xs vs : List Value) (i : ℕ) (v : Value) (front new : List B)
    (x : B) (total : Option (List B))
    → xs ≡ vs → i < length xs → v ≡ get_or xs i v → f (view v) ≡ Some x → new ≡ front ++ x ∷ []
    → after_front front (each_in f (items_view (drop i vs))) ≡ total
    → after_front new (each_in f (items_view (drop (i + 1) vs))) ≡ total
unfolding each_in
goes_on f xs vs i v front new x total same lt e h grown so_far =
    grind (arith, at_index, after_front_step)

pub stops : {B : Type 0} (f : Data → Option B) (xs vs : List Value) (i : ℕ) (v : Value) (front : List B)
    (total : Option (List B))
    → xs ≡ vs → i < length xs → v ≡ get_or xs i v → f (view v) ≡ None
    → after_front front (each_in f (items_view (drop i vs))) ≡ total → or_fault BadShape total ≡ Err BadShape
unfolding each_in
stops f xs vs i v front total same lt e h so_far = grind (arith, at_index)

pub is_done : {B : Type 0} (f : Data → Option B) (xs vs : List Value) (i : ℕ) (front : List B)
    (total : Option (List B))
    → xs ≡ vs → length xs ≤ i
    → after_front front (each_in f (items_view (drop i vs))) ≡ total → or_fault BadShape total ≡ Ok front
unfolding each_in
is_done f xs vs i front total same le so_far = grind (arith, drop_all, append-nil)
