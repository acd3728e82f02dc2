-- A number's text that is a whole number.
use Rattle.std.proofs.Common.{◌≡◌, ℕ, ◌^◌, ◌<◌, List, get_or, false, ◌==◌, Some, lt-ltb, arith}
use Rattle.fast_float.specs.Text.{scan, digits_of, IsInteger}
use Rattle.serde_json.specs.Data.{unsigned}
use Rattle.serde_json.specs.Read.{number_of}

pub is_unsigned : (s : List ℕ) (n : ℕ) → (get_or s 0 0 == 45) ≡ false → IsInteger (scan s)
    → digits_of (scan s) < 2 ^ 64 → digits_of (scan s) ≡ n → number_of s ≡ Some (unsigned n)
unfolding number_of
is_unsigned s n first whole fits e = grind (arith, lt-ltb)
