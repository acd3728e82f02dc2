-- The numbers of the processors so far were appended.
use Rattle.hp_explore.proofs.causes.push_all_causes.Given as goal
use Rattle.hp_explore.specs.CausesBelow.{AreCausedBelow}
use Rattle.std.proofs.Common.{◌≡◌, ℕ, List, ◌++◌}

abbrev pub invariant-loop-cpu : goal.invariant-loop-cpu
invariant-loop-cpu l =
    (part : List ℕ) × (l.numbers.items ≡ l.fn.numbers.items ++ part)
    × AreCausedBelow l.fn.path.setting l.cpu l.fn.path.news part
