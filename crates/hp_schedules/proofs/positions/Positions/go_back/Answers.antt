-- The cursor of the processor is the former one.
use Rattle.std.proofs.Common.{ℕ, ap, slice_set}
use Rattle.hp_schedules.proofs.positions.Positions.go_back.Goals as goal

pub returns : goal.returns
returns c = ap (λ (cpu : ℕ). slice_set c.args.self.now.cursors.items cpu c.args.former) c.cpu.view_is
