use Rattle.std.proofs.Common.{◌≡◌, ◌++◌, take}
use Rattle.std.specs.List.{flat_map}
use Rattle.hp_states.specs.Numbers.{number_code}
use Rattle.hp_states.proofs.code.Code.numbers.Given as goal

abbrev pub invariant-loop-number : goal.invariant-loop-number
invariant-loop-number l =
    l.self ≡ (l.initial.self ++ flat_map number_code (take l.number-index l.numbers))
