-- The lists so far are added.
use Rattle.std.proofs.Common.{map, take}
use Rattle.hp_parts.specs.Adding.{AddsLists}
use Rattle.hp_parts.proofs.merged_ends.MergedEnds.add_lists.Given as goal

abbrev pub invariant-loop-ends : goal.invariant-loop-ends
invariant-loop-ends l = record {
  added : AddsLists l.initial.self (map (λ v. v.items) (take l.ends-index l.lists)) l.self;
}
