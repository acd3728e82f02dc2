-- The serial and the words of an answer.
use Rattle.std.proofs.Common.{◌≡◌, ℕ, ◌<◌, true, false, ltb, eqb, List, length, Bor, Option, Some, None, refl, arith, option_map}
use Rattle.std.specs.List.{position_or_len, before_first, after_first}
use Rattle.std.specs.Option.{MatchOption}
use Rattle.std.proofs.lemmas.Bool.{lt-ltb, le-ltb}
use Rattle.hp_units.specs.NumberWords.{number_of}
use Rattle.hp_map.specs.Rounds.{counted_in, halves_of}
use Rattle.std.specs.Fmt.{decimal}
use Rattle.std.specs.Prelude.{codes, ◌++◌, ◌+◌}

-- what `split_once` gives is the text cut at its first colon
pub halves_are : (answer : List ℕ) (r : Option (Bor (List ℕ) × Bor (List ℕ)))
    → MatchOption r (position_or_len (λ b. eqb b 58) answer ≡ length answer)
    (λ x. (position_or_len (λ b. eqb b 58) answer < length answer)
    × (x.0.now ≡ before_first (λ b. eqb b 58) answer) × (x.1.now ≡ after_first (λ b. eqb b 58) answer))
    → option_map (λ p. (p.0.now, p.1.now)) r ≡ halves_of answer
unfolding halves_of
halves_are answer None h =
    let t : ltb (position_or_len (λ b. eqb b 58) answer) (length answer) ≡ false = le-ltb _ _ (omega arith) in
    rw t refl
halves_are answer (Some x) h =
    let t : ltb (position_or_len (λ b. eqb b 58) answer) (length answer) ≡ true = lt-ltb _ _ h.0 in
    rw (t, h.1, h.2) refl

-- an answer that is cut at its colon and begins with a serial
pub counted_is : (n serial : ℕ) (answer front words : List ℕ) (halves : Option (List ℕ × List ℕ))
    → halves ≡ Some (front, words) → number_of 64 front ≡ Some serial
    → counted_in n answer halves ≡ decimal (serial + n) ++ codes ":" ++ words
counted_is n serial answer front words halves cut number = rw (cut, number) refl
