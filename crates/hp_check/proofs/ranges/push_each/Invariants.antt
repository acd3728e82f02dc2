use Rattle.std.proofs.Common.{take}
use Rattle.hp_check.specs.Adds.{Adds, IsLayout, first_at, out_fault}
use Rattle.hp_check.proofs.ranges.push_each.Given as goal

abbrev pub invariant-loop-out : goal.invariant-loop-out
invariant-loop-out l =
    Adds IsLayout (first_at out_fault 1 (take l.out-index l.outs)) l.fn.found.items l.found.items
