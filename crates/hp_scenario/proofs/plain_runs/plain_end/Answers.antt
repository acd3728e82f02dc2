use Rattle.std.proofs.Common.{sym, ap, ◌∙◌, arith}
use lib.Count.{count_trailing_zeros}
use Rattle.hp_scenario.proofs.PlainRuns.{run_bound, run_through, run_stops}
use Rattle.hp_scenario.proofs.plain_runs.plain_end.Goals as goal

pub returns-then-found-ne0-clause-value : goal.returns-then-found-ne0-clause-value
returns-then-found-ne0-clause-value c =
    let found = c.stops-found in
    let run =
    run_stops c.args.text.now c.loop-i.i 16 (omega arith) (omega arith) (omega (arith, found.ensures))
    ∙ ap (count_trailing_zeros 64) (sym found.ensures) in
    omega (arith, run, c.loop-i.invariant.0)

pub returns-then-found-ne0-clause-bound : goal.returns-then-found-ne0-clause-bound
returns-then-found-ne0-clause-bound c =
    let found = c.stops-found in
    let run =
    run_stops c.args.text.now c.loop-i.i 16 (omega arith) (omega arith) (omega (arith, found.ensures))
    ∙ ap (count_trailing_zeros 64) (sym found.ensures) in
    omega (arith, run, run_bound c.args.text.now c.loop-i.i c.loop-i.invariant.1)

pub loop-i-preserved : goal.loop-i-preserved
loop-i-preserved c =
    let run =
    run_through c.args.text.now c.loop-i.i 16 (omega arith) (omega (arith, c.stops-found.ensures)) in
    (omega (arith, run, c.loop-i.invariant.0), omega arith)

pub returns-clause-bound : goal.returns-clause-bound
returns-clause-bound c =
    omega (arith, run_bound c.args.text.now c.loop-i.i c.loop-i.invariant.1, c.plain_end_slowly.ensures)
