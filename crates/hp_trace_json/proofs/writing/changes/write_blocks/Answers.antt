use Rattle.hp_trace_json.proofs.TokensPut.{one_put, some_more}
use Rattle.hp_trace_json.proofs.writing.changes.write_blocks.Goals as goal
use Rattle.hp_trace_json.proofs.writing.changes.write_blocks.Goals.{in-Some+in_ok-write_row-in-Some, in-None+in_ok-null-in-None}

pub loop-told-preserved : goal.loop-told-preserved
loop-told-preserved c =
    let first = c.args.out.now in
    let key = some_more first _ _ c.loop-told.invariant c.in_ok-write_number_key.ensures in
    elim c.match-told.branch [
      | in-Some+in_ok-write_row-in-Some w ↦
          rw w.out-is (some_more first _ _ key w.in_ok-write_row-in-Some.ensures)
      | in-None+in_ok-null-in-None w ↦
          rw w.out-is (some_more first _ _ key
          (one_put _ _ _ w.in_ok-null-in-None.ensures.room.0 w.in_ok-null-in-None.ensures.ok))
    ]
