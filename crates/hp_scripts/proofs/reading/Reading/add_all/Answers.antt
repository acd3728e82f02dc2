use Rattle.std.proofs.Common.{arith}
use Rattle.hp_scripts.proofs.NamedReads.{line_goes_on, line_stops, lines_done}
use Rattle.hp_scripts.proofs.reading.Reading.add_all.Goals as goal

pub returns-then-not-branch : goal.returns-then-not-branch
returns-then-not-branch c =
    line_stops c.args.texts.now c.loop-index.index _ c.loop-index.self c.add.new.self c.in_ok-add.field-0 _
    c.at.ensures c.in_ok-add.ensures c.if-not-branch.true c.loop-index.invariant

pub loop-index-preserved : goal.loop-index-preserved
loop-index-preserved c =
    line_goes_on c.args.texts.now c.loop-index.index _ c.loop-index.self c.add.new.self c.in_ok-add.field-0 _
    c.at.ensures c.in_ok-add.ensures c.if-not-branch.false c.loop-index.invariant

pub returns : goal.returns
returns c =
    lines_done c.args.texts.now c.loop-index.index c.loop-index.self _
    (omega (arith, c.loop-index-test.false, c.len-index-end.ensures)) c.loop-index.invariant
