use Rattle.hp_trace_json.specs.Changes.{FreeListsTold}
use Rattle.hp_trace_json.proofs.lists.free_lists_told.Given as goal

abbrev pub invariant-loop-number : goal.invariant-loop-number
invariant-loop-number l = FreeListsTold l.was l.now l.number l.told.items
