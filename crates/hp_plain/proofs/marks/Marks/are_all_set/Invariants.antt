use Rattle.std.proofs.Common.{◌≡◌, ℕ, ◌<◌}
use Rattle.hp_plain.specs.Placing.{mark_of}
use Rattle.hp_plain.proofs.marks.Marks.are_all_set.Given as goal

abbrev pub invariant-loop-mark : goal.invariant-loop-mark
invariant-loop-mark l = (k : ℕ) → k < l.mark-index → mark_of l.self k ≡ 1
