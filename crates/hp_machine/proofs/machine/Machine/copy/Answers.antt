-- A copy keeps what every machine keeps.
use Rattle.std.proofs.Common.{◌∙◌}
use Rattle.hp_machine.proofs.machine.Machine.copy.Goals as goal

pub invariant_of-result : goal.invariant_of-result
invariant_of-result c = rw c.in_ok-course.ensures c.self.invariant

pub returns : goal.returns
returns c = c.in_ok-course.ensures ∙ c.self.view_is
