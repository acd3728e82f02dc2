use Rattle.std.specs.Prelude.{◌≡◌, false, ℕ, ◌<◌, get_or, []}
use Rattle.std.specs.Str.{bytes_eq}
use Rattle.hp_scenario.proofs.names.known_index.Given as goal

abbrev pub invariant-loop-index : goal.invariant-loop-index
invariant-loop-index l = (k : ℕ) → k < l.index → bytes_eq l.name (get_or l.known k []) ≡ false
