use Rattle.std.proofs.Common.{◌≡◌, ℕ, ◌<◌, false, get_or}
use Rattle.hp_units.specs.Arithmetic.{buddy}
use Rattle.hp_units.specs.FreeAreas.{is_on}
use Rattle.hp_plain.proofs.heads.Heads.is_joined.Given as goal

abbrev pub invariant-loop-first : goal.invariant-loop-first
invariant-loop-first l = (k : ℕ) → k < l.first-index
    → is_on (buddy (get_or l.frames k 0) l.order) l.frames ≡ false
