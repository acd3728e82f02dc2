use Rattle.std.proofs.Common.{◌≡◌, ◌-◌, length, drop}
use Rattle.hp_units.specs.Memory.{with_free_list}
use Rattle.hp_memory.proofs.loads.areas.load_list.Given as goal

abbrev pub invariant-loop-number : goal.invariant-loop-number
invariant-loop-number l = record {
  areas : l.buddy.areas
      ≡ with_free_list l.initial.buddy.areas l.class l.order (drop (length l.frames - l.number) l.frames);
  layout : l.buddy.layout ≡ l.initial.buddy.layout;
}
