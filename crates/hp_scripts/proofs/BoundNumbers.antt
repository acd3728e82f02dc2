-- Names whose numbers become known one after another.
use Rattle.std.proofs.Common.{◌≡◌, ℕ, zero, suc, List, [], ◌∷◌, ◌++◌, ◌+◌, Some, None, map, take, drop, slice_get, refl, add-one}
use Rattle.std.proofs.lemmas.Option.{same_Some}
use Rattle.indexmap.specs.IndexMap.{set_value_at}
use Rattle.hp_scripts.specs.Bindings.{Bound, numbered_entry, numbered_result}
use Rattle.hp_scripts.specs.declared.results.NamedResult.{NamedResult}

-- the numbers of the first so many entries
abbrev pub so_far : List ℕ → ℕ → Bound → Bound
so_far numbers i bound = map (numbered_entry numbers) (take i bound) ++ drop i bound

abbrev results : Bound → List NamedResult
results bound = map (λ (e : List ℕ × NamedResult). e.1) bound

-- one more
pub number_more : (numbers : List ℕ) (bound : Bound) (i : ℕ) (r : NamedResult)
    → slice_get (results (so_far numbers i bound)) i ≡ Some r
    → set_value_at (so_far numbers i bound) i (numbered_result numbers r) ≡ so_far numbers (suc i) bound
number_more numbers [] zero r at = refl
number_more numbers [] (suc i) r at = refl
number_more numbers (e ∷ es) zero r at =
    rw (same_Some e.1 r at)
number_more numbers (e ∷ es) (suc i) r at =
    rw (number_more numbers es i r at)

-- or none, past the last
pub number_none : (numbers : List ℕ) (bound : Bound) (i : ℕ)
    → slice_get (results (so_far numbers i bound)) i ≡ None
    → so_far numbers i bound ≡ so_far numbers (suc i) bound
number_none numbers [] zero at = refl
number_none numbers [] (suc i) at = refl
number_none numbers (e ∷ es) zero at = absurd cc
number_none numbers (e ∷ es) (suc i) at =
    rw (number_none numbers es i at)

-- a loop's step: entry `i` of the entries so far was found and has its number, or it is past the last
pub more_numbered : (numbers : List ℕ) (bound now next : Bound) (i : ℕ) (r w : NamedResult)
    → now ≡ so_far numbers i bound → slice_get (results now) i ≡ Some r → w ≡ numbered_result numbers r
    → next ≡ set_value_at now i w → next ≡ so_far numbers (i + 1) bound
more_numbered numbers bound now next i r w is found same set =
    rw (set, same, is, add-one) (number_more numbers bound i r (rw is at found))

pub none_numbered : (numbers : List ℕ) (bound now next : Bound) (i : ℕ)
    → now ≡ so_far numbers i bound → slice_get (results now) i ≡ None → next ≡ now
    → next ≡ so_far numbers (i + 1) bound
none_numbered numbers bound now next i is found same =
    rw (same, is, add-one) (number_none numbers bound i (rw is at found))
