use Rattle.std.proofs.Common.{◌≡◌, ◌++◌, drop, take}
use Rattle.hp_scripts.specs.Resolved.{lines_after}
use Rattle.hp_scripts.proofs.resolve.put_numbers.Given as goal

abbrev pub invariant-loop-index : goal.invariant-loop-index
invariant-loop-index l =
    take l.index l.lines ++ lines_after l.numbers (drop l.index l.sources) (drop l.index l.lines)
    ≡ take l.from l.initial.lines
    ++ lines_after l.numbers (drop l.from l.sources) (drop l.from l.initial.lines)
