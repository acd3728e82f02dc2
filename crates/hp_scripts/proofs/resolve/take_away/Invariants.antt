use Rattle.std.proofs.Common.{◌≡◌, ◌++◌, drop, take}
use Rattle.hp_scripts.specs.Resolved.{sources_after}
use Rattle.hp_scripts.proofs.resolve.take_away.Given as goal

abbrev pub invariant-loop-index : goal.invariant-loop-index
invariant-loop-index l =
    take l.index l.sources ++ sources_after l.numbers (drop l.index l.sources)
    ≡ sources_after l.numbers l.initial.sources
