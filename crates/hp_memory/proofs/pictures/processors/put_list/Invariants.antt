use Rattle.std.proofs.Common.{◌≡◌, take}
use Rattle.hp_units.specs.Memory.{with_cached_list}
use Rattle.hp_memory.proofs.pictures.processors.put_list.Given as goal

abbrev pub invariant-loop-number : goal.invariant-loop-number
invariant-loop-number l = record {
  same : l.image ≡ record l.initial.image {
    memory = record l.initial.image.memory
        { free = with_cached_list l.initial.image.memory.free l.cpu l.pool (take l.number l.frames) };
  };
}
