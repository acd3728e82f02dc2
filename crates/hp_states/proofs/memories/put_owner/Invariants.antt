use Rattle.std.proofs.Common.{◌≡◌, ◌++◌, take}
use Rattle.std.specs.List.{flat_map, range_with_len}
use Rattle.hp_states.specs.Parts.{page_code_at}
use Rattle.hp_states.proofs.memories.put_owner.Given as goal

abbrev pub invariant-loop-number : goal.invariant-loop-number
invariant-loop-number l =
    l.code
    ≡ (l.initial.code
    ++ flat_map (page_code_at l.memory.layout l.memory.state.pages l.owner)
    (take l.number (range_with_len 0 l.memory.layout.pages)))
