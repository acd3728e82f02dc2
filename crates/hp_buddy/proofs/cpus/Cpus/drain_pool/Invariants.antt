use Rattle.std.proofs.Common.{◌≡◌, ℕ, ◌+◌, ◌*◌, length}
use Rattle.hp_units.specs.ProcessorLists.{drain_pool}
use Rattle.hp_tape.specs.Tapes.{NotesFree}
use Rattle.hp_buddy.specs.Cpus.{AreTogether, frames_of, list_of, places_among}
use Rattle.hp_buddy.proofs.cpus.Cpus.drain_pool.Given as goal

abbrev pub invariant-loop-given : goal.invariant-loop-given
invariant-loop-given l = record {
  drained :
      drain_pool l.fn.self.layout l.fn.cpu (frames_of l.buddy.areas l.self) l.fn.pool
      ≡ drain_pool l.fn.self.layout l.fn.cpu (frames_of l.fn.buddy.areas l.fn.self) l.fn.pool;
  left : length (list_of l.self l.fn.cpu l.fn.pool) + l._given
      ≡ length (list_of l.fn.self l.fn.cpu l.fn.pool);
  layout : l.self.layout ≡ l.fn.self.layout;
  together : AreTogether l.self l.buddy;
  notes : NotesFree l.fn.self.layout (l._given * (l.fn.self.layout.order + 2)) l.fn.tape l.tape
      (frames_of l.buddy.areas l.self) (frames_of l.fn.buddy.areas l.fn.self);
  places : (other : ℕ)
      → places_among l.buddy.areas l.self other ≡ places_among l.fn.buddy.areas l.fn.self other;
}
