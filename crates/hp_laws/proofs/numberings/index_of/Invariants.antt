-- The number is in none of the entries so far.
use Rattle.std.proofs.Common.{◌≡◌}
use Rattle.hp_laws.specs.Numberings.{index_of}
use Rattle.hp_laws.proofs.Numbered.{index_from}
use Rattle.hp_laws.proofs.numberings.index_of.Given as goal

abbrev pub invariant-loop-index : goal.invariant-loop-index
invariant-loop-index l = index_of l.op l.latest ≡ index_from l.index l.op l.latest
