use Rattle.std.proofs.Common.{◌≢◌, ℕ}
use Rattle.hp_trace_json.specs.Changes.{NoOwnersWords, OwnersWordsTold}
use Rattle.hp_trace_json.proofs.words.owners_words_told.Given as goal

abbrev pub invariant-loop-number : goal.invariant-loop-number
invariant-loop-number l =
    OwnersWordsTold l.was l.now l.owner l.number l.told.items
    × ((other : ℕ) → other ≢ l.owner → NoOwnersWords other l.told.items)
