use Rattle.std.proofs.Common.{◌≡◌, length, Some, slice_get, refl, arith}
use Rattle.std.proofs.lemmas.Option.{slice_get_read}
use Rattle.hp_shared.proofs.LineRuns.{worked_next}
use Rattle.hp_shared.proofs.worker.run_script.Goals as goal

pub loop-at-preserved : goal.loop-at-preserved
loop-at-preserved g c =
    let i = c.loop-at.invariant in
    let lines = c.as_slice-lines.result.now in
    let at = c.loop-at.at in
    let count : at ≡ length c.loop-at.ends.items = omega (arith, i.0, c.loop-at.ends.ok.0) in
    let read =
    slice_get_read lines (length lines) at c.index-lines-at.result refl
    (omega (arith, c.loop-at-test.true, c.loop-at.auto)) c.index-lines-at.is in
    let here : slice_get c.args.script.now (length c.loop-at.ends.items) ≡ Some c.index-lines-at.result =
    rw (← c.as_slice-lines.ensures, ← count) read in (
      omega (arith, i.0, c.push_reserved.ensures.len),
      omega (arith, i.1, c.push_reserved.ensures.capacity),
      worked_next g.L.Job.layout c.args.seat c.loop-at.seat c.run_line-end.new.seat c.args.script.now
          c.index-lines-at.result c.loop-at.volumes.items c.run_line-end.new.volumes.items
          c.loop-at.ends.items
          c.push_reserved.new.self.items c.run_line-end.result here c.push_reserved.ensures.items i.2
          c.run_line-end.ensures,
    )

pub returns-in_default-clause-started : goal.returns-in_default-clause-started
returns-in_default-clause-started g c = rw c.stopped.ensures.fault tt
