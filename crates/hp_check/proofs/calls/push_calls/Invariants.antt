use Rattle.std.proofs.Common.{map}
use Rattle.serde_json.specs.View.{view}
use Rattle.hp_check.proofs.Entries.{AreLookedAt}
use Rattle.hp_check.proofs.calls.push_calls.Given as goal

abbrev pub invariant-loop-index : goal.invariant-loop-index
invariant-loop-index l = AreLookedAt (map view l.calls) l.index l.fn.found.items l.found.items l.bound
