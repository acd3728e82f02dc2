use Rattle.std.proofs.Common.{IfSome, None}
use Rattle.hp_units.specs.Placement.{IsKernelAt}
use Rattle.hp_plain.specs.Placing.{kernel_covered}
use Rattle.hp_plain.proofs.Counting.{SoFar}
use Rattle.hp_plain.proofs.kernel.place_kernel.Given as goal

abbrev pub invariant-loop-number : goal.invariant-loop-number
invariant-loop-number l =
    SoFar (λ frame first entry. kernel_covered frame first entry)
    (λ first entry. IfSome entry (IsKernelAt l.layout l.rows first))
    l.kernel None l.number l.fn.marks l.marks
