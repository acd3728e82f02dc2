use Rattle.std.proofs.Common.{◌≡◌, [], get_or, arith}
use Rattle.std.proofs.lemmas.List.{get_or-set_same}
use Rattle.std.proofs.lemmas.Option.{slice_get-get_or}
use Rattle.hp_scripts.proofs.FrontRuns.{later_stay, runs_more, source_here}
use Rattle.hp_scripts.proofs.resolve.run_front.Goals as goal

pub loop-index-preserved : goal.loop-index-preserved
loop-index-preserved c =
    let lines = c.loop-index.lines in
    let at = c.loop-index.index in
    let new = c.put_number.new.line in
    let one = rw (get_or-set_same lines at new _ (omega arith)) at c.in_ok-number.ensures in
    record {
      ran = rw c.in_ok-push.ensures.items
          (runs_more c.args.lines.now lines at (get_or lines at c.index-lines-index.result) new
          c.args.sources.now c.in_ok-machine.machine c.loop-index.machine c.run_line.new.machine []
          c.loop-index.numbers.items c.in_ok-number.number
          (slice_get-get_or lines at c.index-lines-index.result (omega arith)) (omega arith)
          c.loop-index.invariant.later
          (rw (
            ← source_here c.args.sources.now at,
            ← c.source_at.ensures,
            ← c.deref.ensures.value,
            ← c.number_at-number.ensures,
          ) c.put_number.ensures) c.loop-index.invariant.ran one);
      later = later_stay c.args.lines.now lines at new c.loop-index.invariant.later;
    }

pub returns-clause-run : goal.returns-clause-run
returns-clause-run c =
    let all : c.loop-index.index ≡ c.args.front = omega arith in (
      c.loop-index.machine,
      rw c.in_ok-machine.ensures at (rw all at c.loop-index.invariant.ran),
    )

pub returns-clause-later : goal.returns-clause-later
returns-clause-later c =
    let all : c.loop-index.index ≡ c.args.front = omega arith in
    rw all at c.loop-index.invariant.later
