-- The groups of the ends so far.
use Rattle.std.proofs.Common.{◌≡◌, take}
use Rattle.hp_search.specs.Groups.{AreGroups}
use Rattle.hp_search.proofs.groups.groups_of.Given as goal

abbrev pub invariant-loop-end : goal.invariant-loop-end
invariant-loop-end l = record {
  by : l.groups.by ≡ l.fn.by;
  so_far : AreGroups l.fn.by (take l.end-index l.ends) l.groups.ends;
}
