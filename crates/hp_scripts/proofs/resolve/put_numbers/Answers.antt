use Rattle.std.proofs.Common.{get_or, arith}
use Rattle.std.proofs.lemmas.Option.{slice_get-get_or}
use Rattle.hp_scripts.proofs.FrontRuns.{put_one, source_here}
use Rattle.hp_scripts.proofs.resolve.put_numbers.Goals as goal

pub loop-index-preserved : goal.loop-index-preserved
loop-index-preserved c =
    let lines = c.loop-index.lines in
    let at = c.loop-index.index in
    put_one lines c.args.sources.now c.args.numbers.now at (get_or lines at c.index-lines-index.result)
    c.put_number.new.line _ (slice_get-get_or lines at c.index-lines-index.result (omega arith))
    (rw (← source_here c.args.sources.now at, ← c.source_at.ensures, ← c.number_at-number.ensures)
    c.put_number.ensures)
    c.loop-index.invariant
