-- One call after another.
use Rattle.std.proofs.Common.{Bool, ◌+◌, ◌≤◌, ◌∙◌, ℕ, arith, drop, false, length, sym, true}
use Rattle.std.proofs.Math.ListN.{drop_of_length-le}
use Rattle.hp_units.specs.declared.replies.Receipt.{Receipt}
use Rattle.hp_schedules.specs.Scripts.{frame_in, no_frame, takes_frame}
use Rattle.hp_schedules.proofs.Nths.{nth_later, shown, shown_at}
use Rattle.hp_schedules.proofs.results.nth_frame.Goals as goal

abbrev frame_of : Receipt → ℕ
frame_of r = frame_in r.reply

abbrev takes : Receipt → Bool
takes r = takes_frame r.event

pub loop-call-preserved-then-not-takes_frame : goal.loop-call-preserved-then-not-takes_frame
loop-call-preserved-then-not-takes_frame c =
    rw (shown_at frame_of takes _ _ _ _ false c.loop-call-test.true c.call-item.is
    (sym c.takes_frame.ensures ∙ c.if-not-takes_frame.true)) at c.loop-call.invariant

pub returns-then-left-eq0 : goal.returns-then-left-eq0
returns-then-left-eq0 c =
    let here =
    shown_at frame_of takes c.args.cpu c.args.news.now c.loop-call.call-index c.call-item.result true
    c.loop-call-test.true c.call-item.is (sym c.takes_frame.ensures ∙ c.if-not-takes_frame.false) in
    c.frame_in.ensures ∙ sym (rw (here, c.if-left-eq0.true) at c.loop-call.invariant)

pub loop-call-preserved : goal.loop-call-preserved
loop-call-preserved c =
    let here =
    shown_at frame_of takes c.args.cpu c.args.news.now c.loop-call.call-index c.call-item.result true
    c.loop-call-test.true c.call-item.is (sym c.takes_frame.ensures ∙ c.if-not-takes_frame.false) in
    let later =
    nth_later (frame_in c.call-item.result.reply)
    (shown frame_of takes c.args.cpu (drop (c.loop-call.call-index + 1) c.args.news.now))
    c.loop-call.left no_frame (omega (arith, c.if-left-eq0.false)) in
    rw (here, later) at c.loop-call.invariant

pub returns : goal.returns
returns c =
    let over : length c.args.news.now ≤ c.loop-call.call-index = omega (arith, c.loop-call-test.false) in
    sym (rw (drop_of_length-le c.args.news.now over) at c.loop-call.invariant)
