use Rattle.std.proofs.Common.{◌≡◌, ◌++◌}
use Rattle.std.specs.List.{flat_map, range_with_len}
use Rattle.hp_units.specs.Memory.{Memory}
use Rattle.hp_judge.specs.Logs.{frees_at}
use Rattle.hp_judge.specs.Snapshots.{Shows}
use Rattle.hp_judge.proofs.step_logs.push_frees.Given as goal

abbrev pub invariant-loop-number : goal.invariant-loop-number
invariant-loop-number l =
    (s t : Memory) → Shows l.layout s l.before → Shows l.layout t l.after
    → l.log.items ≡ l.initial.log.items ++ flat_map (frees_at l.layout s t) (range_with_len 0 l.number)
