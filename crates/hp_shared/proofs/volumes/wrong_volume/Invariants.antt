use Rattle.std.specs.Prelude.{◌≡◌, ◌≤◌, ◌*◌, take}
use Rattle.hp_history.specs.Volumes.{records_in}
use Rattle.hp_shared.specs.Volumes.{AreCountedBefore}
use Rattle.hp_shared.proofs.volumes.wrong_volume.Given as goal

abbrev pub invariant-loop-at : goal.invariant-loop-at
invariant-loop-at l =
    (l.count ≡ records_in (take l.at l.volumes.items)) × AreCountedBefore l.volumes.items l.at
    × (l.count ≤ l.at * 18446744073709551616)
