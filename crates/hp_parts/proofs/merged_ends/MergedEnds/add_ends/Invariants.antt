-- The ends so far are added.
use Rattle.std.proofs.Common.{take}
use Rattle.hp_parts.specs.Adding.{AddsEnds}
use Rattle.hp_parts.proofs.merged_ends.MergedEnds.add_ends.Given as goal

abbrev pub invariant-loop-end : goal.invariant-loop-end
invariant-loop-end l = record {
  added : AddsEnds l.initial.self (take l.end-index l.ends) l.self;
}
