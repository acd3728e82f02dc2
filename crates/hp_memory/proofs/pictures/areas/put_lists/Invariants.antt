use Rattle.std.proofs.Common.{◌≡◌, []}
use Rattle.hp_units.specs.Rows.{with_areas}
use Rattle.hp_memory.specs.Tables.{AreCopied}
use Rattle.hp_memory.proofs.pictures.areas.put_lists.Given as goal

abbrev pub invariant-loop-number : goal.invariant-loop-number
invariant-loop-number l = record {
  lists : AreCopied [] [] l.number l.buddy.areas.lists l.image.memory.free.areas.lists;
  same : l.image ≡ record l.initial.image {
    memory = with_areas l.initial.image.memory
        (record l.initial.image.memory.free.areas { lists = l.image.memory.free.areas.lists });
  };
}
