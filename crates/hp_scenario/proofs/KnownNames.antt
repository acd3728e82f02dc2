-- A name that stands among the names.
use Rattle.std.proofs.Common.{◌≡◌, ℕ, ◌<◌, Bool, true, false, cond, List, [], Some, None, length, get_or, refl, arith}
use Rattle.std.proofs.lemmas.Bool.{lt-ltb}
use Rattle.std.proofs.lemmas.List.{get_or_default}
use Rattle.std.proofs.lemmas.List.Folds.{list_any_at}
use Rattle.std.proofs.lemmas.List.Quantifiers.{position-Some}
use Rattle.std.proofs.lemmas.List.Sums.{position_or_len_is}
use Rattle.std.specs.List.{position, position_or_len}
use Rattle.std.specs.Str.{bytes_eq}
use Rattle.indexmap.specs.IndexSet.{insert_key}

some_if : (b : Bool) (k n : ℕ) → cond b (Some k) None ≡ Some n → n ≡ k
some_if b k n e = grind arith

-- its place is its number
pub known_place : (names : List (List ℕ)) (name : List ℕ) (n : ℕ) → position (bytes_eq name) names ≡ Some n
    → n ≡ position_or_len (bytes_eq name) names
known_place names name n h = some_if _ _ n h

-- and the names stay as they are
pub known_stays : (names : List (List ℕ)) (name : List ℕ) (n : ℕ) → position (bytes_eq name) names ≡ Some n
    → names ≡ insert_key bytes_eq names name
known_stays names name n h =
    let p = position-Some (bytes_eq name) names n [] h in
    rw (list_any_at (bytes_eq name) names n [] p.0 p.1) refl

-- a name that no earlier one is
pub stands_first : (names : List (List ℕ)) (name : List ℕ) (n : ℕ) (x : List ℕ) → n < length names
    → ((k : ℕ) → k < n → bytes_eq name (get_or names k []) ≡ false) → x ≡ get_or names n x
    → bytes_eq name x ≡ true → position (bytes_eq name) names ≡ Some n
stands_first names name n x within before is equal =
    let here : bytes_eq name (get_or names n []) ≡ true = cc (get_or_default names n x [] within) in
    grind (arith, position_or_len_is, lt-ltb)
