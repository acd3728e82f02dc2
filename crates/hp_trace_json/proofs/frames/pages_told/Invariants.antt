use Rattle.hp_trace_json.specs.Changes.{PagesTold}
use Rattle.hp_trace_json.proofs.frames.pages_told.Given as goal

abbrev pub invariant-loop-number : goal.invariant-loop-number
invariant-loop-number l = PagesTold l.was l.now l.number l.told.items
