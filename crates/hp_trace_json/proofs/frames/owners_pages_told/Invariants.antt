use Rattle.std.proofs.Common.{◌≢◌, ℕ}
use Rattle.hp_trace_json.specs.Changes.{NoOwnersPages, OwnersPagesTold}
use Rattle.hp_trace_json.proofs.frames.owners_pages_told.Given as goal

abbrev pub invariant-loop-number : goal.invariant-loop-number
invariant-loop-number l =
    OwnersPagesTold l.was l.now l.owner l.number l.told.items
    × ((other : ℕ) → other ≢ l.owner → NoOwnersPages other l.told.items)
