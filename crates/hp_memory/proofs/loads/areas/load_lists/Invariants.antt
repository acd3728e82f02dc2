use Rattle.std.proofs.Common.{◌≡◌, []}
use Rattle.hp_memory.specs.Tables.{AreCopied}
use Rattle.hp_memory.proofs.loads.areas.load_lists.Given as goal

abbrev pub invariant-loop-number : goal.invariant-loop-number
invariant-loop-number l = record {
  lists : AreCopied [] [] l.number l.image.memory.free.areas.lists l.buddy.areas.lists;
  kinds : l.buddy.areas.kinds ≡ l.initial.buddy.areas.kinds;
  layout : l.buddy.layout ≡ l.initial.buddy.layout;
}
