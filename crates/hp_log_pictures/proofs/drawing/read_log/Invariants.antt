use Rattle.std.proofs.Common.{◌≡◌}
use Rattle.hp_log_pictures.proofs.drawing.read_log.Given as goal

abbrev pub invariant-loop-line : goal.invariant-loop-line
invariant-loop-line g l = g.R.Source.failures l.source ≡ g.R.Source.failures l.fn.source
