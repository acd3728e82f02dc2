use Rattle.hp_trace_json.specs.ChangeObjects.{PutsSome}
use Rattle.hp_trace_json.proofs.writing.changes.write_lists.Given as goal

abbrev pub invariant-loop-told : goal.invariant-loop-told
invariant-loop-told l = PutsSome l.fn.out l.out

abbrev pub invariant-loop-told-2 : goal.invariant-loop-told-2
invariant-loop-told-2 l = PutsSome l.fn.out l.out
