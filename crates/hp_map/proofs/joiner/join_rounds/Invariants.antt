use Rattle.hp_map.specs.Rounds.{Reads}
use Rattle.hp_map.proofs.joiner.join_rounds.Given as goal

abbrev pub invariant-loop-row : goal.invariant-loop-row
invariant-loop-row l = Reads l.entries.items l.joiner l.yielded
