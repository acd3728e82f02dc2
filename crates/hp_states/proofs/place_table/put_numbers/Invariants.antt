use Rattle.std.proofs.Common.{◌≡◌, ◌++◌, take}
use Rattle.std.specs.List.{flat_map}
use Rattle.hp_states.specs.Numbers.{number_code}
use Rattle.hp_states.proofs.place_table.put_numbers.Given as goal

abbrev pub invariant-loop-number : goal.invariant-loop-number
invariant-loop-number l =
    l.code ≡ (l.initial.code ++ flat_map number_code (take l.number-index l.numbers))
