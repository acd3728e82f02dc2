use Rattle.std.proofs.Common.{◌≡◌, ◌++◌}
use Rattle.hp_svg.proofs.shown.add_all.Given as goal

abbrev pub invariant-loop-row : goal.invariant-loop-row
invariant-loop-row l = l.shown.items ≡ l.fn.shown.items ++ l.yielded
