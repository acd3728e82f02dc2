use Rattle.std.proofs.Common.{◌≡◌, []}
use Rattle.hp_memory.specs.Tables.{AreCopied}
use Rattle.hp_memory.proofs.pictures.processors.put_cpus.Given as goal

abbrev pub invariant-loop-number : goal.invariant-loop-number
invariant-loop-number l = record {
  lists : AreCopied [] [] l.number l.cpus.cached l.image.memory.free.cached;
  same : l.image ≡ record l.initial.image {
    memory = record l.initial.image.memory
        { free = record l.initial.image.memory.free { cached = l.image.memory.free.cached } };
  };
}
