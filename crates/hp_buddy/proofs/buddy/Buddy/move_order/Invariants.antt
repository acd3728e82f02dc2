use Rattle.std.proofs.Common.{◌≡◌, ◌*◌, ◌^◌}
use Rattle.hp_units.specs.Arithmetic.{pageblock_size}
use Rattle.hp_tape.specs.Tapes.{NotesAreas}
use Rattle.hp_buddy.specs.Moves.{free_count}
use Rattle.hp_buddy.proofs.Moves.{move_first}
use Rattle.hp_buddy.proofs.buddy.Buddy.move_order.Given as goal

abbrev pub invariant-loop-at : goal.invariant-loop-at
invariant-loop-at l = record {
  areas : l.self.areas ≡ move_first l.fn.self.areas l.from l.to l.order
      (l.fn.pageblock * pageblock_size l.fn.self.layout) (l.at * 2 ^ l.order);
  layout : l.self.layout ≡ l.fn.self.layout;
  notes : NotesAreas l.fn.self.layout (2 * free_count l.fn.self.areas l.from l.order (l.fn.pageblock
      * pageblock_size l.fn.self.layout) (l.at * 2 ^ l.order)) l.fn.tape l.tape l.self.areas l.fn.self.areas;
}
