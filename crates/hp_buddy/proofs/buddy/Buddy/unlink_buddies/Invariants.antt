use Rattle.std.proofs.Common.{◌≡◌, ◌-◌}
use Rattle.hp_units.specs.FreeAreas.{without_buddies}
use Rattle.hp_tape.specs.Tapes.{NotesAreas}
use Rattle.hp_buddy.proofs.buddy.Buddy.unlink_buddies.Given as goal

abbrev pub invariant-loop-order : goal.invariant-loop-order
invariant-loop-order l = record {
  areas : l.self.areas ≡ without_buddies l.fn.self.areas l.class l.fn.frame l.fn.first (l.order - l.fn.first);
  layout : l.self.layout ≡ l.fn.self.layout;
  notes : NotesAreas l.fn.self.layout (l.order - l.fn.first) l.fn.tape l.tape l.self.areas l.fn.self.areas;
}
