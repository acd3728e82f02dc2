use Rattle.std.proofs.Common.{◌≡◌, ℕ}
use Rattle.hp_trace_json.specs.Changes.{NoWords, PagesWordsTold}
use Rattle.hp_trace_json.proofs.words.pages_words_told.Given as goal

abbrev pub invariant-loop-index : goal.invariant-loop-index
invariant-loop-index l =
    PagesWordsTold l.owner l.page l.was l.now l.index l.told.items
    × ((o p : ℕ) → (o ≡ l.owner → p ≡ l.page → ⊥) → NoWords o p l.told.items)
