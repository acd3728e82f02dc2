-- The replies of the processors so far.
use Rattle.std.proofs.Common.{◌≡◌}
use Rattle.hp_schedules.specs.Outcomes.{replies_below}
use Rattle.hp_schedules.proofs.outcomes.all_answers.Given as goal

abbrev pub invariant-loop-cpu : goal.invariant-loop-cpu
invariant-loop-cpu l = l.all.items ≡ replies_below l.cpu l.records
