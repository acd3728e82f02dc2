-- The value has the ends.
use Rattle.std.proofs.Common.{ap}
use Rattle.hp_schedules.specs.Notes.{TallyValue}
use Rattle.hp_schedules.proofs.tally.Tally.into_ends.Goals as goal

pub returns-clause-is : goal.returns-clause-is
returns-clause-is c = ap (λ (t : TallyValue). t.ends) c.self.view_is
