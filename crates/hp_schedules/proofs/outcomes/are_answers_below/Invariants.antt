-- The lists so far are those of the processors so far.
use Rattle.std.proofs.Common.{◌≡◌, take}
use Rattle.hp_schedules.specs.Outcomes.{replies_below}
use Rattle.hp_schedules.proofs.outcomes.are_answers_below.Given as goal

abbrev pub invariant-loop-cpu : goal.invariant-loop-cpu
invariant-loop-cpu l = take l.cpu l.answers ≡ replies_below l.cpu l.records
