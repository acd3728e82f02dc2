use Rattle.std.proofs.Common.{◌≡◌, ◌≤◌, count_by, take}
use Rattle.hp_check.specs.Findings.{is_fault}
use Rattle.hp_check.proofs.checking.fault_count.Given as goal

abbrev pub invariant-loop-finding : goal.invariant-loop-finding
invariant-loop-finding l =
    (l.count ≡ count_by is_fault (take l.finding-index l.findings)) × (l.count ≤ l.finding-index)
