-- No end so far has the outcome.
use Rattle.std.proofs.Common.{take}
use Rattle.hp_schedules.specs.Notes.{HasNoEnd}
use Rattle.hp_parts.proofs.merged_ends.first_place_of.Given as goal

abbrev pub invariant-loop-place : goal.invariant-loop-place
invariant-loop-place l = record {
  none : HasNoEnd (take l.place l.ends) l.outcome;
}
