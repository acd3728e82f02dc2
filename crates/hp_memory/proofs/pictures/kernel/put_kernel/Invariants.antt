use Rattle.std.proofs.Common.{◌≡◌, None}
use Rattle.hp_memory.specs.Tables.{AreCopied}
use Rattle.hp_memory.proofs.pictures.kernel.put_kernel.Given as goal

abbrev pub invariant-loop-number : goal.invariant-loop-number
invariant-loop-number l = record {
  blocks : AreCopied None None l.number l.kernel l.image.memory.kernel;
  same : l.image
      ≡ record l.initial.image { memory = record l.initial.image.memory { kernel = l.image.memory.kernel } };
}
