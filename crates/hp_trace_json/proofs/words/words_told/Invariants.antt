use Rattle.hp_trace_json.specs.Changes.{WordsTold}
use Rattle.hp_trace_json.proofs.words.words_told.Given as goal

abbrev pub invariant-loop-number : goal.invariant-loop-number
invariant-loop-number l = WordsTold l.was l.now l.number l.told.items
