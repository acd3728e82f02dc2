-- Places without keys change no place's key.
use Rattle.std.proofs.Common.{◌≡◌, ℕ, ◌+◌, ◌-◌, None, get_or, length}
use Rattle.hp_explore.proofs.path_keys.reach.Given as goal

abbrev pub invariant-places : goal.invariant-places
invariant-places l =
    (at : ℕ) → get_or l.keys.items at None ≡ get_or l.initial.keys.items at None

abbrev pub decreases-places : goal.decreases-places
decreases-places l = (l.calls + 1) - length l.keys.items
