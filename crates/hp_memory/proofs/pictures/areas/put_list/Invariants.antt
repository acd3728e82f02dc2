use Rattle.std.proofs.Common.{◌≡◌, take}
use Rattle.hp_units.specs.Memory.{with_free_list}
use Rattle.hp_units.specs.Rows.{with_areas}
use Rattle.hp_memory.proofs.pictures.areas.put_list.Given as goal

abbrev pub invariant-loop-number : goal.invariant-loop-number
invariant-loop-number l = record {
  same : l.image ≡ record l.initial.image {
    memory = with_areas l.initial.image.memory
        (with_free_list l.initial.image.memory.free.areas l.class l.order (take l.number l.frames));
  };
}
