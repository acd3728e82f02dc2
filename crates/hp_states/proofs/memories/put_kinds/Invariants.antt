use Rattle.std.proofs.Common.{◌≡◌, ◌+◌, ◌/◌, ◌++◌, length, take}
use Rattle.std.specs.List.{flat_map, range_with_len}
use Rattle.hp_states.specs.Parts.{kinds_code}
use Rattle.hp_states.proofs.memories.put_kinds.Given as goal

abbrev pub invariant-loop-four : goal.invariant-loop-four
invariant-loop-four l =
    l.code
    ≡ (l.initial.code
    ++ flat_map (kinds_code l.kinds) (take l.four (range_with_len 0 ((length l.kinds + 3) / 4))))
