use Rattle.std.proofs.Common.{◌<◌, ◌^◌, drop}
use Rattle.hp_scenario.proofs.PlainNumbers.{AreLeft}
use Rattle.hp_scenario.proofs.numbers.digits_value.Given as goal

abbrev pub invariant-loop-byte : goal.invariant-loop-byte
invariant-loop-byte l =
    AreLeft l.digits (drop l.byte-index l.digits) l.number × (l.number < 10 ^ l.byte-index)
