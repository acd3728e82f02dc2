use Rattle.std.proofs.Common.{◌≡◌, [], None, rules}
use Rattle.std.proofs.lemmas.Iterator.Consumers.{YieldsList-end}
use Rattle.std.proofs.lemmas.Iterator.Splits.{YieldsList-from_lines}
use Rattle.hp_map.specs.Rows.{row_with}
use Rattle.hp_trace.proofs.RowsJoined.{line_joined}
use Rattle.hp_trace.proofs.rows.Rows.join_lines.Goals as goal

pub loop-line-preserved : goal.loop-line-preserved
loop-line-preserved c =
    let is : c.in_ok-row.row ≡ row_with c.in-Some.line.now [] None [] = search rules in
    line_joined c.loop-line.yielded c.in-Some.line c.in_ok-row.row c.args.self.now c.loop-line.self
    c.join.new.self is c.loop-line.invariant c.in_ok-join.ensures

pub returns : goal.returns
returns c =
    let end =
    YieldsList-end (YieldsList-from_lines c.args.text.now cc) c.loop-line.yielded _
    c.loop-line.yielded_by _ _ c.in-None.is c.next.ensures.steps in
    rw (← end.0) c.loop-line.invariant
