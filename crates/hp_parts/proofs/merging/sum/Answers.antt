-- The ends of all lists are added to none, and sorted.
use Rattle.std.proofs.Common.{◌<◌, [], length, map, arith}
use Rattle.std.proofs.lemmas.List.{length-map}
use Rattle.std.proofs.lemmas.List.Sorted.{sum_by-IsPermutation}
use Rattle.hp_schedules.specs.Ends.{AreCounted}
use Rattle.hp_schedules.specs.Schedules.{EndsWith, Setting}
use Rattle.hp_schedules.specs.declared.tally.Ending.{Ending}
use Rattle.hp_parts.specs.Adding.{AddsLists}
use Rattle.hp_parts.specs.AllParts.{AreParts}
use Rattle.hp_parts.proofs.Joining.{items, lists_apart, lists_sum}
use Rattle.hp_parts.proofs.Moved.{apart_moved}
use Rattle.hp_parts.proofs.AllParts.{all_added, all_sorted, sorted_in_order}
use Rattle.hp_parts.proofs.merging.sum.Goals as goal
use Rattle.hp_parts.proofs.merging.sum.Goals.{After-into_sorted}

added : (c : After-into_sorted) → AddsLists [] (map items c.args.parts.now) c.add_lists.new.self
added c = rw c.new-merged.ensures at c.in_ok-add_lists.ensures

-- those of all parts
all : (c : After-into_sorted) (g : Setting) (calls : _) → 0 < length c.args.parts.now
    → AreParts g calls (map items c.args.parts.now) → AreCounted (EndsWith g) c.into_sorted.result.items
all c g calls some parts =
    all_sorted g c.add_lists.new.self c.into_sorted.result.items c.into_sorted.ensures
    (all_added g calls (map items c.args.parts.now) c.add_lists.new.self
    (omega (arith, length-map c.args.parts.now items)) parts (added c))

pub returns-clause-ends : goal.returns-clause-ends
returns-clause-ends c = all c

pub returns-clause-ordered : goal.returns-clause-ordered
returns-clause-ordered c =
    λ g calls some parts. sorted_in_order g c.add_lists.new.self c.into_sorted.result.items
    c.into_sorted.ensures (all c g calls some parts)

pub returns-clause-total : goal.returns-clause-total
returns-clause-total c =
    omega (
      arith,
      sum_by-IsPermutation (λ (e : Ending). e.count) c.add_lists.new.self c.into_sorted.result.items
          c.into_sorted.ensures.moved,
      lists_sum [] (map items c.args.parts.now) c.add_lists.new.self (added c),
    )

pub returns-clause-apart : goal.returns-clause-apart
returns-clause-apart c =
    apart_moved c.add_lists.new.self c.into_sorted.result.items c.into_sorted.ensures.moved
    (lists_apart [] (map items c.args.parts.now) c.add_lists.new.self (added c)
    (λ i j e f h k same. absurd cc))

pub returns-clause-adds : goal.returns-clause-adds
returns-clause-adds c = (c.add_lists.new.self, added c, c.into_sorted.ensures)
