-- All scripts are at their ends, and the schedule is the part's.
use Rattle.std.proofs.Common.{◌≡◌, length, arith}
use Rattle.hp_states.proofs.Noting.{end_here, no_end_here}
use Rattle.hp_explore.proofs.walk.Walk.is_end.Goals as goal

pub returns-then-not-frame : goal.returns-then-not-frame
returns-then-not-frame c =
    let w = c.args.self.now in
    let turns = c.requires.kept.walked.0 in
    let same : c.args.frame.now.next ≡ length w.path.setting.scripts =
    omega (arith, turns.within, c.requires.all, c.requires.kept.processors) in
    no_end_here w.path.setting w.part w.path.news c.args.frame.now.next c.args.frame.now.is_over same
    c.if-not-frame.true turns.over

pub returns : goal.returns
returns c =
    let w = c.args.self.now in
    let turns = c.requires.kept.walked.0 in
    let same : c.args.frame.now.next ≡ length w.path.setting.scripts =
    omega (arith, turns.within, c.requires.all, c.requires.kept.processors) in
    let counted : w.processors ≡ c.args.frame.now.next =
    omega (arith, turns.within, c.requires.all, c.requires.kept.processors) in
    let of = rw (counted, c.records.ensures) at c.is_of.ensures in
    end_here w.path.setting w.part w.path.news c.args.frame.now.next c.args.frame.now.is_over c.is_of.result
    same c.if-not-frame.false turns.over of.0 of.1
