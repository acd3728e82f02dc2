-- One call after another.
use Rattle.std.proofs.Common.{Bool, ℕ, ◌≡◌, ◌+◌, ◌≤◌, ◌∙◌, Bool, List, ap, arith, cond, drop, false, length, sym, true}
use Rattle.std.proofs.Math.ListN.{drop_of_length-le}
use Rattle.hp_units.specs.Receipts.{receipts_of}
use Rattle.hp_units.specs.declared.replies.Receipt.{Receipt}
use Rattle.hp_units.specs.declared.replies.Record.{Record}
use Rattle.hp_schedules.specs.Scripts.{frame_in, frames_of, takes_frame}
use Rattle.hp_schedules.proofs.Nths.{shown_long}
use Rattle.hp_schedules.proofs.results.frame_count.Goals as goal
use Rattle.hp_schedules.proofs.results.frame_count.Goals.{then-takes_frame, else-takes_frame}

abbrev frame_of : Receipt → ℕ
frame_of r = frame_in r.reply

abbrev takes : Receipt → Bool
takes r = takes_frame r.event

pub loop-call-preserved : goal.loop-call-preserved
loop-call-preserved c = elim c.if-takes_frame.branch [
  | then-takes_frame w ↦
      let on = one_more true (w.if-takes_frame.true) in (
        omega (arith, c.loop-call.invariant.0, w.count-is, on),
        omega (arith, c.loop-call.invariant.1, w.count-is),
      )
  | else-takes_frame w ↦
      let on = one_more false (w.if-takes_frame.false) in (
        omega (arith, c.loop-call.invariant.0, w.count-is, on),
        omega (arith, c.loop-call.invariant.1, w.count-is),
      )
]
  where
    one_more : (own : Bool) → c.takes_frame.result ≡ own
        → length (frames_of (receipts_of c.args.cpu (drop c.loop-call.call-index c.args.news.now)))
        ≡ length (frames_of (receipts_of c.args.cpu (drop (c.loop-call.call-index + 1) c.args.news.now)))
        + cond own 1 0
    one_more own is =
        shown_long frame_of takes c.args.cpu c.args.news.now c.loop-call.call-index c.call-item.result own
        c.loop-call-test.true c.call-item.is (sym c.takes_frame.ensures ∙ is)

pub returns : goal.returns
returns c =
    let over : length c.args.news.now ≤ c.loop-call.call-index = omega (arith, c.loop-call-test.false) in
    let none =
    ap (λ (news : List Record). length (frames_of (receipts_of c.args.cpu news)))
    (drop_of_length-le c.args.news.now over) in
    omega (arith, c.loop-call.invariant.0, none)
