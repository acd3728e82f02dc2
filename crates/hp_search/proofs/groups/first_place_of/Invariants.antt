-- No group so far is the outcome's.
use Rattle.std.proofs.Common.{take}
use Rattle.hp_search.specs.Groups.{HasNoGroup}
use Rattle.hp_search.proofs.groups.first_place_of.Given as goal

abbrev pub invariant-loop-place : goal.invariant-loop-place
invariant-loop-place l = record {
  none : HasNoGroup l.by (take l.place l.groups) l.outcome;
}
