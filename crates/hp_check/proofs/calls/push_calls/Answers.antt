use Rattle.std.proofs.Common.{map}
use Rattle.std.proofs.lemmas.List.{length-map, take_all}
use Rattle.serde_json.specs.View.{view}
use Rattle.hp_check.proofs.Added.{none_added}
use Rattle.hp_check.proofs.Entries.{entry_added, entry_there}
use Rattle.hp_check.proofs.calls.push_calls.Goals as goal

pub loop-index-init : goal.loop-index-init
loop-index-init c = record { found = none_added _ _; names = c.new-bound.ensures }

pub loop-index-preserved : goal.loop-index-preserved
loop-index-preserved c =
    entry_added _ _ _ _ _ (rw length-map c.loop-index-test.true)
    (entry_there _ _ _ c.loop-index-test.true c.index-calls-index.is) c.loop-index.invariant
    c.in_ok-push_entry.ensures.found c.in_ok-push_entry.ensures.bound

pub returns : goal.returns
returns c =
    let calls = map view c.entries_of-calls.result.now in
    rw (take_all c.loop-index.index calls (rw length-map c.loop-index-test.false), c.entries_of-calls.ensures)
    at c.loop-index.invariant.found
