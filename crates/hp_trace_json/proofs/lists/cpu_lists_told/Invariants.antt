use Rattle.hp_trace_json.specs.Changes.{CpuListsTold}
use Rattle.hp_trace_json.proofs.lists.cpu_lists_told.Given as goal

abbrev pub invariant-loop-number : goal.invariant-loop-number
invariant-loop-number l = CpuListsTold l.was l.now l.number l.told.items
