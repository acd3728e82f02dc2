use Rattle.std.proofs.Common.{◌≡◌, ◌++◌, drop, map, take}
use Rattle.hp_scripts.specs.Bindings.{numbered_entry}
use Rattle.hp_scripts.proofs.bindings.Bindings.number.Given as goal

abbrev pub invariant-loop-index : goal.invariant-loop-index
invariant-loop-index l =
    l.self-inside.results.entries
    ≡ map (numbered_entry l.numbers) (take l.index l.fn.self) ++ drop l.index l.fn.self
