-- One line more.
use Rattle.std.proofs.Common.{length, refl}
use Rattle.std.proofs.lemmas.Option.{slice_get_read}
use Rattle.hp_search.proofs.SummaryLines.{one_more}
use Rattle.hp_search.proofs.summaries.write_summary.Goals as goal

pub loop-index-preserved : goal.loop-index-preserved
loop-index-preserved c =
    one_more c.args.ends.now _ _ _ c.loop-index.index c.index-ends-index.result
    (slice_get_read c.args.ends.now (length c.args.ends.now) c.loop-index.index c.index-ends-index.result refl
    c.loop-index-test.true c.index-ends-index.is) c.loop-index.invariant c.in_ok-write_line.ensures
