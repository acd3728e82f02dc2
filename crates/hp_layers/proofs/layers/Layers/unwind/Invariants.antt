use Rattle.std.proofs.Common.{◌≡◌, ◌≤◌, drop, length, take}
use Rattle.hp_tape.specs.Deltas.{undo, undo_all}
use Rattle.hp_layers.specs.Layers.{AreOfOneLayout, view_of}
use Rattle.hp_layers.proofs.Unwinding.{IsUnwound}
use Rattle.hp_layers.proofs.layers.Layers.unwind.Given as goal

abbrev pub invariant-loop-tape : goal.invariant-loop-tape
invariant-loop-tape l = record {
  unwound :
      IsUnwound l.initial.self.layout (drop l.mark l.tape.deltas) (view_of l.self)
      (undo_all undo (drop l.mark l.initial.tape.deltas) (view_of l.initial.self));
  kept : take l.mark l.tape.deltas ≡ take l.mark l.initial.tape.deltas;
  mark : l.mark ≤ length l.tape.deltas;
  room : l.tape.room ≡ l.initial.tape.room;
  layout : l.self.layout ≡ l.initial.self.layout;
  one : AreOfOneLayout l.self;
}

abbrev pub decreases-loop-tape : goal.decreases-loop-tape
decreases-loop-tape l = length l.tape.deltas
