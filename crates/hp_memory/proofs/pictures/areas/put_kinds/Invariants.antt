use Rattle.std.proofs.Common.{◌≡◌}
use Rattle.hp_units.specs.Memory.{plain_kind}
use Rattle.hp_units.specs.Rows.{with_areas}
use Rattle.hp_memory.specs.Tables.{AreCopied}
use Rattle.hp_memory.proofs.pictures.areas.put_kinds.Given as goal

abbrev pub invariant-loop-number : goal.invariant-loop-number
invariant-loop-number l = record {
  kinds : AreCopied plain_kind plain_kind l.number l.buddy.areas.kinds l.image.memory.free.areas.kinds;
  same : l.image ≡ record l.initial.image {
    memory = with_areas l.initial.image.memory
        (record l.initial.image.memory.free.areas { kinds = l.image.memory.free.areas.kinds });
  };
}
