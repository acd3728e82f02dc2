use Rattle.std.specs.List.{All}
use Rattle.hp_check.specs.Adds.{IsRepeat}
use Rattle.hp_check.proofs.repeats.push_repeats_of.Given as goal

abbrev pub invariant-loop-key : goal.invariant-loop-key
invariant-loop-key l = All IsRepeat l.found.items
