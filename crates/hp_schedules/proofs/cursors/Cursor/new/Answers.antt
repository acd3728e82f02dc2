-- With the driver of its line.
use Rattle.std.proofs.Common.{ℕ, ap}
use Rattle.hp_ops.specs.declared.stages.Driver.{Driver}
use Rattle.hp_schedules.specs.declared.cursors.Cursor.{Cursor}
use Rattle.hp_schedules.proofs.cursors.Cursor.new.Goals as goal

abbrev pointing : ℕ → ℕ → Driver → Cursor
pointing line op driver = record { line = line; op = op; driver = driver }

pub returns : goal.returns
returns c = ap (pointing c.args.line c.args.op) c.first_driver.ensures
