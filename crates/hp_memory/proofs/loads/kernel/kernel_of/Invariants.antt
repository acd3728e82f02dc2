use Rattle.std.proofs.Common.{None}
use Rattle.hp_memory.specs.Tables.{AreCopied}
use Rattle.hp_memory.proofs.loads.kernel.kernel_of.Given as goal

abbrev pub invariant-loop-number : goal.invariant-loop-number
invariant-loop-number l = record {
  blocks : AreCopied None None l.number l.image.memory.kernel l.kernel;
}
