use Rattle.std.proofs.Common.{◌≡◌, ℕ, ◌+◌, ◌-◌, ◌*◌, []}
use Rattle.hp_tape.specs.Tapes.{NotesFree}
use Rattle.hp_buddy.specs.Batches.{filled}
use Rattle.hp_buddy.specs.Cpus.{AreTogether, frames_of, list_of, places_among}
use Rattle.hp_buddy.proofs.cpus.Cpus.refill.Given as goal

abbrev pub invariant-loop-taken : goal.invariant-loop-taken
invariant-loop-taken l = record {
  filled :
      filled l.fn.self.layout (frames_of l.buddy.areas l.self) l.fn.cpu l.fn.pool
      (l.fn.self.layout.batch - l._taken)
      ≡ filled l.fn.self.layout (frames_of l.fn.buddy.areas l.fn.self) l.fn.cpu l.fn.pool
      l.fn.self.layout.batch;
  layout : l.self.layout ≡ l.fn.self.layout;
  together : AreTogether l.self l.buddy;
  notes : NotesFree l.fn.self.layout (l._taken * (l.fn.self.layout.order + 2)) l.fn.tape l.tape
      (frames_of l.buddy.areas l.self) (frames_of l.fn.buddy.areas l.fn.self);
  places : (other : ℕ)
      → places_among l.buddy.areas l.self other ≡ places_among l.fn.buddy.areas l.fn.self other;
  none : list_of l.self l.fn.cpu l.fn.pool ≡ []
      → (l.self ≡ l.fn.self) × (l.buddy ≡ l.fn.buddy) × (l.tape ≡ l.fn.tape);
}
