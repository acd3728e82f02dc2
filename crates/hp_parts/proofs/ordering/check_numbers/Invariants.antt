use Rattle.hp_parts.specs.Ordering.{ArePlacedBelow}
use Rattle.hp_parts.proofs.ordering.check_numbers.Given as goal

abbrev pub invariant-loop-index : goal.invariant-loop-index
invariant-loop-index l = record { placed : ArePlacedBelow l.index l.parts }
