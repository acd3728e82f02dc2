-- The scripts so far.
use Rattle.std.proofs.Common.{◌≡◌, map}
use Rattle.std.specs.List.{range_with_len}
use Rattle.hp_questions.specs.PlanEnds.{plan_ends_of}
use Rattle.hp_questions.proofs.plan_ends.all_plan_ends.Given as goal

abbrev pub invariant-loop-index : goal.invariant-loop-index
invariant-loop-index l = l.ends.items ≡ map (plan_ends_of l.cpus l.scripts l.all) (range_with_len 0 l.index)
