-- `split_once` at a slash.
use Rattle.std.proofs.Common.{◌≡◌, ℕ, ◌<◌, true, false, ltb, eqb, List, length, Bor, Option, Some, None, refl, arith, option_map}
use Rattle.std.specs.List.{position_or_len, before_first, after_first}
use Rattle.std.specs.Option.{MatchOption}
use Rattle.std.proofs.lemmas.Bool.{lt-ltb, le-ltb}
use Rattle.hp_requests.specs.Files.{halves_of}

-- what `split_once` gives is the text cut at its first slash
pub halves_are : (path : List ℕ) (r : Option (Bor (List ℕ) × Bor (List ℕ)))
    → MatchOption r (position_or_len (λ b. eqb b 47) path ≡ length path)
    (λ x. (position_or_len (λ b. eqb b 47) path < length path)
    × (x.0.now ≡ before_first (λ b. eqb b 47) path) × (x.1.now ≡ after_first (λ b. eqb b 47) path))
    → option_map (λ p. (p.0.now, p.1.now)) r ≡ halves_of path
unfolding halves_of
halves_are path None h =
    let t : ltb (position_or_len (λ b. eqb b 47) path) (length path) ≡ false = le-ltb _ _ (omega arith) in
    rw t refl
halves_are path (Some x) h =
    let t : ltb (position_or_len (λ b. eqb b 47) path) (length path) ≡ true = lt-ltb _ _ h.0 in
    rw (t, h.1, h.2) refl
