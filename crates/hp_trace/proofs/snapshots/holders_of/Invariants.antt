use Rattle.std.proofs.Common.{◌≡◌, map}
use Rattle.std.specs.List.{range_with_len}
use Rattle.hp_judge.specs.Snapshots.{holder_of}
use Rattle.hp_trace.proofs.snapshots.holders_of.Given as goal

abbrev pub invariant-loop-number : goal.invariant-loop-number
invariant-loop-number l = l.holders.items ≡ map (holder_of l.machine.state) (range_with_len 0 l.number)
