use Rattle.std.proofs.Common.{◌≡◌, []}
use Rattle.hp_memory.specs.Tables.{AreCopied}
use Rattle.hp_memory.proofs.loads.processors.load_lists.Given as goal

abbrev pub invariant-loop-number : goal.invariant-loop-number
invariant-loop-number l = record {
  lists : AreCopied [] [] l.number l.image.memory.free.cached l.cpus.cached;
  layout : l.cpus.layout ≡ l.initial.cpus.layout;
}
