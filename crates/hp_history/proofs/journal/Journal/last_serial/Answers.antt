-- The records that were sealed, and those since.
use Rattle.std.proofs.Common.{ap}
use Rattle.hp_history.specs.Course.{CourseValue, last_serial}
use Rattle.hp_history.proofs.journal.Journal.last_serial.Goals as goal

pub returns : goal.returns
returns c = rw c.self.invariant.1 (ap (λ (m : CourseValue). last_serial m) c.self.view_is)
