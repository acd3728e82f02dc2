use Rattle.std.proofs.Common.{subst, sym}
use Rattle.hp_trace_json.specs.ChangeObjects.{PutsSome}
use Rattle.hp_trace_json.proofs.TokensPut.{one_put, some_more}
use Rattle.hp_trace_json.proofs.writing.changes.write_pageblocks.Goals as goal
use Rattle.hp_trace_json.proofs.writing.changes.write_pageblocks.Goals.{then-told+in_ok-string, else-told+in_ok-null}

pub loop-told-preserved : goal.loop-told-preserved
loop-told-preserved c =
    let first = c.args.out.now in
    let key = some_more first _ _ c.loop-told.invariant c.in_ok-write_number_key.ensures in
    elim c.if-told.branch [
      | then-told+in_ok-string w ↦
          rw w.out-is (some_more first _ _ key
          (one_put _ _ _ w.in_ok-string.ensures.room.0 w.in_ok-string.ensures.ok))
      | else-told+in_ok-null w ↦
          subst (PutsSome first) (sym w.out-is)
          (some_more first _ _ key (one_put _ _ _ w.in_ok-null.ensures.room.0 w.in_ok-null.ensures.ok))
    ]
