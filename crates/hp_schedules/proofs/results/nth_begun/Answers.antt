-- One call after another.
use Rattle.std.proofs.Common.{Bool, ◌+◌, ◌≤◌, ◌∙◌, ℕ, arith, drop, false, length, sym, true}
use Rattle.std.proofs.Math.ListN.{drop_of_length-le}
use Rattle.hp_units.specs.Marks.{is_opening, mark_of}
use Rattle.hp_units.specs.declared.replies.Receipt.{Receipt}
use Rattle.hp_schedules.proofs.Nths.{nth_later, shown, shown_at}
use Rattle.hp_schedules.proofs.results.nth_begun.Goals as goal

abbrev serial_of : Receipt → ℕ
serial_of r = r.serial

abbrev opens : Receipt → Bool
opens r = is_opening (mark_of r.event)

pub loop-call-preserved-then-not-begins : goal.loop-call-preserved-then-not-begins
loop-call-preserved-then-not-begins c =
    rw (shown_at serial_of opens _ _ _ _ false c.loop-call-test.true c.call-item.is
    (sym c.begins.ensures ∙ c.if-not-begins.true)) at c.loop-call.invariant

pub returns-then-left-eq0 : goal.returns-then-left-eq0
returns-then-left-eq0 c =
    let here =
    shown_at serial_of opens c.args.cpu c.args.news.now c.loop-call.call-index c.call-item.result true
    c.loop-call-test.true c.call-item.is (sym c.begins.ensures ∙ c.if-not-begins.false) in
    sym (rw (here, c.if-left-eq0.true) at c.loop-call.invariant)

pub loop-call-preserved : goal.loop-call-preserved
loop-call-preserved c =
    let here =
    shown_at serial_of opens c.args.cpu c.args.news.now c.loop-call.call-index c.call-item.result true
    c.loop-call-test.true c.call-item.is (sym c.begins.ensures ∙ c.if-not-begins.false) in
    let later =
    nth_later c.call-item.result.serial
    (shown serial_of opens c.args.cpu (drop (c.loop-call.call-index + 1) c.args.news.now)) c.loop-call.left 0
    (omega (arith, c.if-left-eq0.false)) in
    rw (here, later) at c.loop-call.invariant

pub returns : goal.returns
returns c =
    let over : length c.args.news.now ≤ c.loop-call.call-index = omega (arith, c.loop-call-test.false) in
    sym (rw (drop_of_length-le c.args.news.now over) at c.loop-call.invariant)
