use Rattle.hp_trace_json.specs.ChangeObjects.{PutsSome}
use Rattle.hp_trace_json.proofs.writing.changes.write_put.Given as goal

abbrev pub invariant-loop-frame : goal.invariant-loop-frame
invariant-loop-frame l = PutsSome l.fn.out l.out
