-- A splice from what two lists have in common at their starts and at their ends.
use Rattle.std.proofs.Common.{◌≡◌, ℕ, ◌+◌, ◌-◌, List, ◌++◌, length, take, drop, ap, arith, append_assoc}
use Rattle.std.proofs.lemmas.List.{take-append-drop, drop-drop}
use Rattle.hp_trace_json.specs.Splices.{IsSplice, is_last_end, is_last_start}

whole : (xs : List ℕ) (at n : ℕ) → take at xs ++ (take n (drop at xs) ++ drop (at + n) xs) ≡ xs
whole xs at n = rw (← drop-drop n at xs, take-append-drop n (drop at xs), take-append-drop at xs)

pub splices : (was now put : List ℕ) (at end gone : ℕ) → is_last_start was now at
    → is_last_end was now at end → gone ≡ length was - end - at
    → put ≡ take (length now - end - at) (drop at now)
    → IsSplice was now (record { at = at; gone = gone; put = put })
splices was now put at end gone start ends goes comes =
    let back : length was - at - gone ≡ end = omega (arith, goes, ends.0.0) in
    let place : at + gone ≡ length was - end = omega (arith, goes, ends.0.0) in
    let tail : drop (at + gone) was ≡ drop (at + (length now - end - at)) now =
    rw (place, ends.0.2) (ap (λ (k : ℕ). drop k now) (omega (arith, ends.0.1))) in
    record {
      leads = rw (append_assoc (take at was) put (drop (at + gone) was), start.0.2, comes, tail)
          (whole now at (length now - end - at));
      begins = start;
      ends = rw back ends;
    }
