-- Values that are texts, and the list of these.
use Rattle.std.proofs.Common.{◌≡◌, ℕ, ◌<◌, Bool, true, false, ◌&&◌, List, [], ◌∷◌, length, get_or, slice_get, map, Option, Some, None, is_some, option_and_then, refl, true≢false, arith}
use Rattle.std.proofs.lemmas.List.Folds.{list_all_at}
use Rattle.std.proofs.lemmas.List.{length-map}
use Rattle.std.proofs.lemmas.Option.{slice_get-map, slice_get_read}
use Rattle.std.specs.List.{list_all}
use Rattle.std.specs.Prelude.{unwrap_or}
use Rattle.serde_json.specs.Find.{as_str}
use Rattle.serde_json.specs.View.{view, items_view}
use Rattle.serde_json.specs.declared.value.Value.{Value}
use Rattle.hp_scenario.specs.Form.{each_in, is_text, text_of}

-- one text and the rest
one_more : (o : Option (List ℕ)) (rest : Option (List (List ℕ))) (b : Bool) (ts : List (List ℕ))
    → (is_some o && b) ≡ true → (b ≡ true → rest ≡ Some ts)
    → option_and_then (λ x. option_and_then (λ xs. Some (x ∷ xs)) rest) o ≡ Some (unwrap_or o [] ∷ ts)
one_more o rest b ts h all = grind arith

pub all_texts : (vs : List Value) → list_all is_text vs ≡ true
    → each_in as_str (items_view vs) ≡ Some (map text_of vs)
unfolding each_in
all_texts [] h = refl
all_texts (v ∷ vs) h =
    one_more _ _ _ _ h (all_texts vs)

one_lost : (o : Option (List ℕ)) (rest : Option (List (List ℕ))) (b : Bool) → (is_some o && b) ≡ false
    → (b ≡ false → rest ≡ None) → option_and_then (λ x. option_and_then (λ xs. Some (x ∷ xs)) rest) o ≡ None
one_lost o rest b h none = grind arith

pub not_all_texts : (vs : List Value) → list_all is_text vs ≡ false → each_in as_str (items_view vs) ≡ None
unfolding each_in
not_all_texts [] h = absurd cc
not_all_texts (v ∷ vs) h =
    one_lost (as_str (view v)) (each_in as_str (items_view vs)) (list_all is_text vs) h (not_all_texts vs)

text_read : (o : Option (List ℕ)) (text : List ℕ) → o ≡ Some text → unwrap_or o [] ≡ text
text_read o text e = grind arith

-- the text at a place
pub text_there : (vs : List Value) (i : ℕ) (v : Value) (text : List ℕ) → i < length (map text_of vs)
    → v ≡ get_or vs i v → as_str (view v) ≡ Some text → slice_get (map text_of vs) i ≡ Some text
text_there vs i v text lt at e = grind (arith, slice_get-map, slice_get_read, length-map, text_read)

-- there is one at each place
pub text_lacks : (vs : List Value) (i : ℕ) (v : Value) → list_all is_text vs ≡ true
    → i < length (map text_of vs) → v ≡ get_or vs i v → as_str (view v) ≡ None → ⊥
text_lacks vs i v all lt at e = grind (arith, true≢false, list_all_at, length-map)
