use Rattle.std.proofs.Common.{◌≡◌, ◌++◌, take}
use Rattle.std.specs.List.{flat_map, range_with_len}
use Rattle.hp_states.specs.Parts.{owner_code}
use Rattle.hp_states.proofs.memories.put_pages.Given as goal

abbrev pub invariant-loop-number : goal.invariant-loop-number
invariant-loop-number l =
    l.code
    ≡ (l.initial.code
    ++ flat_map (owner_code l.memory.layout l.memory.state.pages)
    (take l.number (range_with_len 0 l.memory.layout.owners)))
