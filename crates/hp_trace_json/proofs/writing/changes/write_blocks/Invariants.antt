use Rattle.hp_trace_json.specs.ChangeObjects.{PutsSome}
use Rattle.hp_trace_json.proofs.writing.changes.write_blocks.Given as goal

abbrev pub invariant-loop-told : goal.invariant-loop-told
invariant-loop-told l = PutsSome l.fn.out l.out
