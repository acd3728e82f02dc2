use Rattle.std.proofs.Common.{arith}
use Rattle.hp_scenario.proofs.LineLoop.{line_goes_on, line_stops, lines_done}
use Rattle.hp_scenario.proofs.scenario.add_lines.Goals as goal

pub returns-in_default : goal.returns-in_default
returns-in_default c =
    line_stops c.args.texts.now c.loop-index.index _
    (record { names = c.loop-index.names.keys; lines = c.loop-index.lines.items }) c.in_ok-line.field-0 _ _
    c.at.ensures c.in_ok-line.ensures.is c.in_default.is c.loop-index.invariant.0

pub loop-index-preserved : goal.loop-index-preserved
loop-index-preserved c =
    let i = c.loop-index.invariant in (
      line_goes_on c.args.texts.now c.loop-index.index _
          (record { names = c.loop-index.names.keys; lines = c.loop-index.lines.items }) c.in_ok-line.field-0
          c.in-Some.line _ _ _ c.at.ensures c.in_ok-line.ensures.is c.in-Some.is c.push_reserved.ensures.items
          i.0,
      omega (arith, i.1, c.push_reserved.ensures.len),
      omega (arith, i.2, c.push_reserved.ensures.capacity),
    )

pub returns : goal.returns
returns c =
    lines_done c.args.texts.now c.loop-index.index
    (record { names = c.loop-index.names.keys; lines = c.loop-index.lines.items }) _
    (omega (arith, c.loop-index-test.false, c.len-index-end.ensures)) c.loop-index.invariant.0
