-- The steps that are left after a call.
use Rattle.std.proofs.Common.{◌≡◌, ℕ, ◌-◌, ◌≤◌, ◌⊎◌, false, cond, List, [], ◌∷◌, ◌++◌, length, take, drop, nat_lt, arith}
use Rattle.std.proofs.lemmas.List.{drop_all, length-drop, take_all}
use Rattle.hp_trace_json.specs.Steps.{steps_after}

lt_false : (a b : ℕ) → b ≤ a → nat_lt a b ≡ false
lt_false a b le = grind (arith, le)

grows : (length kept count : ℕ) → kept ≤ length → (kept ≡ count) ⊎ (kept ≡ length)
    → nat_lt kept count ≡ nat_lt length count
grows length kept count within x = grind (arith, lt_false)

-- the steps that are kept, and the call's own
pub followed : (xs : List ℕ) (kept count serial : ℕ) → kept ≤ count → kept ≤ length xs
    → (kept ≡ count) ⊎ (kept ≡ length xs)
    → take kept xs ++ cond (nat_lt kept count) (serial ∷ []) [] ≡ steps_after xs count serial
followed xs kept count serial low within most = grind (arith, grows, take_all)

-- the steps that are dropped
pub dropped : (xs part out : List ℕ) (kept count : ℕ) → part ≡ xs
    → out ≡ take (length part - kept) (drop kept part) → kept ≤ count → (kept ≡ count) ⊎ (kept ≡ length xs)
    → out ≡ drop count xs
dropped xs part out kept count same is low most = grind (arith, take_all, length-drop, drop_all)
