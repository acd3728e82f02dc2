use Rattle.hp_trace_json.specs.Changes.{BlocksTold}
use Rattle.hp_trace_json.proofs.blocks.blocks_told.Given as goal

abbrev pub invariant-loop-number : goal.invariant-loop-number
invariant-loop-number l = BlocksTold l.was l.now l.number l.told.items
