use Rattle.std.proofs.Common.{◌≡◌, ◌*◌}
use Rattle.hp_units.specs.Arithmetic.{pageblock_size}
use Rattle.hp_units.specs.Isolation.{move_free_below}
use Rattle.hp_tape.specs.Tapes.{NotesAreas}
use Rattle.hp_buddy.proofs.Pageblocks.{free_total}
use Rattle.hp_buddy.proofs.buddy.Buddy.move_orders.Given as goal

abbrev pub invariant-loop-order : goal.invariant-loop-order
invariant-loop-order l = record {
  areas : l.self.areas ≡ move_free_below l.fn.self.layout l.fn.self.areas l.from l.to l.pageblock l.order;
  layout : l.self.layout ≡ l.fn.self.layout;
  notes : NotesAreas l.fn.self.layout (2 * free_total l.fn.self.areas l.from
      (l.pageblock * pageblock_size l.fn.self.layout) (pageblock_size l.fn.self.layout)
      l.order) l.fn.tape l.tape l.self.areas l.fn.self.areas;
}
