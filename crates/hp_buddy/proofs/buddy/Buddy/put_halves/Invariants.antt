use Rattle.std.proofs.Common.{◌≡◌, ◌-◌, ◌≤◌}
use Rattle.hp_units.specs.FreeAreas.{with_halves}
use Rattle.hp_tape.specs.Tapes.{NotesAreas}
use Rattle.hp_buddy.proofs.buddy.Buddy.put_halves.Given as goal

abbrev pub invariant-loop-half : goal.invariant-loop-half
invariant-loop-half l = record {
  areas : l.self.areas ≡ with_halves l.fn.self.areas l.class l.fn.frame l.half (l.fn.order - l.half);
  layout : l.self.layout ≡ l.fn.self.layout;
  low : l.fn.last ≤ l.half;
  notes : NotesAreas l.fn.self.layout (l.fn.order - l.half) l.fn.tape l.tape l.self.areas l.fn.self.areas;
}
