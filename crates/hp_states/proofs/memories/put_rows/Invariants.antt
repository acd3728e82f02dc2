use Rattle.std.proofs.Common.{◌≡◌, ◌++◌, map, take}
use Rattle.std.specs.List.{flat_map}
use Rattle.hp_laws.specs.Renumbered.{renumbered_row}
use Rattle.hp_laws.specs.Numberings.{number_of}
use Rattle.hp_states.specs.Parts.{row_code}
use Rattle.hp_states.proofs.memories.put_rows.Given as goal

abbrev pub invariant-loop-number : goal.invariant-loop-number
invariant-loop-number l =
    l.code ≡ (l.initial.code
    ++ flat_map row_code (map (renumbered_row (number_of l.fixed l.latest))
    (take l.number l.memory.state.blocks.rows)))
