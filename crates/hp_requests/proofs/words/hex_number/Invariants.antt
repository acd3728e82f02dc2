-- The number so far is what the digits so far write, and it has no more places than they.
use Rattle.std.proofs.Common.{◌≡◌, ◌<◌, ◌≤◌, ◌^◌, length, drop}
use Rattle.hp_requests.specs.Words as means
use Rattle.hp_requests.proofs.words.hex_number.Given as goal

abbrev pub invariant-loop-digit : goal.invariant-loop-digit
invariant-loop-digit l = record {
  rest : means.hex_after 0 l.digits ≡ means.hex_after l.number (drop l.digit-index l.digits);
  places : l.number < 16 ^ l.digit-index;
  few : length l.digits ≤ 16;
}
