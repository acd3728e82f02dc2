use Rattle.hp_trace_json.specs.Changes.{KernelTold}
use Rattle.hp_trace_json.proofs.frames.kernel_told.Given as goal

abbrev pub invariant-loop-number : goal.invariant-loop-number
invariant-loop-number l = KernelTold l.was l.now l.number l.told.items
