use Rattle.std.proofs.Common.{◌≡◌, ◌≤◌, ◌*◌, sum_by, take}
use Rattle.hp_schedules.specs.declared.tally.Ending.{Ending}
use Rattle.hp_schedules.proofs.tally.total_of.Given as goal

abbrev pub invariant-loop-end : goal.invariant-loop-end
invariant-loop-end l =
    (l.total ≡ sum_by (λ (e : Ending). e.count) (take l.end-index l.ends))
    × (l.total ≤ l.end-index * 18446744073709551615)
