use Rattle.std.proofs.Common.{◌≡◌, ℕ, ◌<◌, get_or}
use Rattle.hp_units.specs.declared.rows.Boot.TheVariants.{Offline}
use Rattle.hp_machine.proofs.same_layouts.same_boot.Given as goal

abbrev pub invariant-loop-block : goal.invariant-loop-block
invariant-loop-block l = (k : ℕ) → k < l.block → get_or l.boot k Offline ≡ get_or l.others k Offline
