use Rattle.std.proofs.Common.{◌≡◌, take}
use Rattle.hp_shared.specs.Seals.{seals_in_all}
use Rattle.hp_shared.proofs.counts.count_all.Given as goal

abbrev pub invariant-loop-script : goal.invariant-loop-script
invariant-loop-script l = l.count ≡ seals_in_all (take l.script-index l.scripts.items)
