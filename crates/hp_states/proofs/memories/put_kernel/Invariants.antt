-- The code so far, and then that of the blocks from the frame on, is the whole code.
use Rattle.std.proofs.Common.{◌≡◌, ◌≤◌, ◌-◌, ◌++◌, drop}
use Rattle.hp_states.specs.Parts.{kernel_code}
use Rattle.hp_states.proofs.memories.put_kernel.Given as goal

abbrev pub invariant-loop-frame : goal.invariant-loop-frame
invariant-loop-frame l = record {
  code : (l.code ++ kernel_code 0 (drop l.from l.kernel))
      ≡ (l.initial.code ++ kernel_code 0 l.kernel);
  from : l.from ≤ l.frames;
}

abbrev pub decreases-loop-frame : goal.decreases-loop-frame
decreases-loop-frame l = l.frames - l.from
