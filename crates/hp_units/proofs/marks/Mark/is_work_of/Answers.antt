-- Work is the operation's own if it names the operation's number.
use Rattle.std.proofs.Common.{rules}
use Rattle.hp_units.proofs.marks.Mark.is_work_of.Goals as goal

pub returns-in-Works : goal.returns-in-Works
returns-in-Works c = search rules

pub returns-in_default : goal.returns-in_default
returns-in_default c = search rules
