use Rattle.hp_trace_json.specs.Changes.{PageblocksTold}
use Rattle.hp_trace_json.proofs.blocks.pageblocks_told.Given as goal

abbrev pub invariant-loop-number : goal.invariant-loop-number
invariant-loop-number l = PageblocksTold l.was l.now l.number l.told.items
