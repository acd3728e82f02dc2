use Rattle.std.proofs.Common.{◌-◌, ◌≤◌, length, take}
use Rattle.hp_search.specs.Prepared.{names_of, setting_of}
use Rattle.hp_parts.specs.Gathered.{IsGathering}
use Rattle.hp_parts.proofs.taking.gather.Given as goal

abbrev pub invariant-loop-place : goal.invariant-loop-place
invariant-loop-place l = record {
  within : l.place ≤ length l.input;
  so_far : IsGathering (names_of l.prepared) (setting_of l.prepared) l.head.search
      (take l.place l.input) l.gathered;
}

abbrev pub decreases-loop-place : goal.decreases-loop-place
decreases-loop-place l = length l.input - l.place
