use Rattle.std.proofs.Common.{◌≡◌, ◌==◌, ◌<◌, ℕ, Bool, false, arith, zero, suc}
use Rattle.std.proofs.lemmas.Str.{IsCharBoundary-after_ascii}
use Rattle.hp_scripts.proofs.words.after_dollar.Goals as goal

not_empty : (n : ℕ) (b : Bool) → b ≡ (n == 0) → b ≡ false → 0 < n
not_empty zero b is h = absurd cc
not_empty (suc n) b is h = omega arith

pub range_from-requires : goal.range_from-requires
range_from-requires c =
    let some = rw c.as_bytes-bytes.ensures.value at (not_empty _ _ c.is_empty.ensures c.if-is_empty.false) in
    let dollar = rw c.as_bytes-bytes.ensures.value at c.if-bytes-ne36.false in
    λ _. IsCharBoundary-after_ascii c.args.word.now 0 c.utf8.word some (omega (arith, dollar))
