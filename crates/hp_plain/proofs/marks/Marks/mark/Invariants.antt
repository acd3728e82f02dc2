use Rattle.std.proofs.Common.{◌≡◌, ℕ, ◌+◌, cond, ◌&&◌, nat_le, nat_lt}
use Rattle.hp_plain.specs.Placing.{mark_of}
use Rattle.hp_plain.proofs.marks.Marks.mark.Given as goal

abbrev pub invariant-loop-frame : goal.invariant-loop-frame
invariant-loop-frame l = (f : ℕ)
    → mark_of l.self f ≡ mark_of l.fn.self f + cond (nat_le l.first f && nat_lt f l.frame) 1 0
