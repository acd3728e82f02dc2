use Rattle.std.proofs.Common.{◌≡◌}
use Rattle.hp_units.specs.Memory.{plain_kind}
use Rattle.hp_memory.specs.Tables.{AreCopied}
use Rattle.hp_memory.proofs.loads.areas.load_kinds.Given as goal

abbrev pub invariant-loop-number : goal.invariant-loop-number
invariant-loop-number l = record {
  kinds : AreCopied plain_kind plain_kind l.number l.image.memory.free.areas.kinds l.buddy.areas.kinds;
  lists : l.buddy.areas.lists ≡ l.initial.buddy.areas.lists;
  layout : l.buddy.layout ≡ l.initial.buddy.layout;
}
