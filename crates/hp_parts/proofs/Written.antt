-- Texts one after another.
use Rattle.std.proofs.Common.{◌≡◌, ℕ, List, ◌++◌, Result, Ok, Err, OnOk, append_assoc}
use Rattle.std.specs.Bool.{if◌then◌else◌}
use Rattle.std.specs.Result.{is_ok}

-- four texts one after another
pub four_written : (old a b c d one two three four : List ℕ) → one ≡ old ++ a → two ≡ one ++ b
    → three ≡ two ++ c → four ≡ three ++ d → four ≡ old ++ (a ++ b ++ c ++ d)
four_written old a b c d one two three four at_one at_two at_three at_four =
    rw (at_four, at_three, at_two, at_one) (simp append_assoc)

-- three texts one after another, where the last is written by the call that is returned
pub three_written : {T E : Type 0} (r : Result T E) (old a b c one two three : List ℕ) → one ≡ old ++ a
    → two ≡ one ++ b → three ≡ (if is_ok r then two ++ c else two)
    → OnOk r (three ≡ old ++ (a ++ b ++ c))
three_written (Ok x) old a b c one two three at_one at_two at_three =
    rw (at_three, at_two, at_one) (simp append_assoc)
three_written (Err e) old a b c one two three at_one at_two at_three = tt
