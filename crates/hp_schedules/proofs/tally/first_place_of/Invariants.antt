-- No end so far has the outcome.
use Rattle.std.proofs.Common.{take}
use Rattle.hp_schedules.specs.Notes.{HasNoEnd}
use Rattle.hp_schedules.specs.Outcomes.{outcome_with}
use Rattle.hp_schedules.proofs.tally.first_place_of.Given as goal

abbrev pub invariant-loop-place : goal.invariant-loop-place
invariant-loop-place l = record {
  none : HasNoEnd (take l.place l.ends) (outcome_with l.processors l.records l.blocks);
}
