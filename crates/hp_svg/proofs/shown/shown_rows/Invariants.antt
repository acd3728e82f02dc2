use Rattle.std.proofs.Common.{◌≡◌}
use Rattle.std.specs.List.{flat_map}
use Rattle.hp_svg.specs.Shown.{shown_of}
use Rattle.hp_svg.proofs.shown.shown_rows.Given as goal

abbrev pub invariant-loop-entry : goal.invariant-loop-entry
invariant-loop-entry l = l.shown.items ≡ flat_map shown_of l.yielded
