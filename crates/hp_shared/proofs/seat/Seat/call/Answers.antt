use Rattle.std.specs.Prelude.{vec_len, vec_capacity}
use Rattle.std.proofs.Common.{◌∙◌, length, sym, rules}
use Rattle.hp_shared.proofs.SeatCalls.{fills, full_still, left_so, seat_called}
use Rattle.hp_shared.proofs.seat.Seat.call.Goals as goal

pub returns-in_default-clause-err : goal.returns-in_default-clause-err
returns-in_default-clause-err g c = search rules

pub returns-in_default-copy-clause-ok : goal.returns-in_default-copy-clause-ok
returns-in_default-copy-clause-ok g c = search rules

pub returns-in_default-copy-clause-only : goal.returns-in_default-copy-clause-only
returns-in_default-copy-clause-only g c = search rules

pub returns-in-Ok-turn-clause-ok : goal.returns-in-Ok-turn-clause-ok
returns-in-Ok-turn-clause-ok g c =
    rw (← c.self.view_is)
    (seat_called g.L.Job.layout c.self.inside.cpu c.self.inside.receipts.items c.reserve.new.self.items
    c.push_reserved.new.self.items c.args.event.now c.in-Ok-copy.asked c.in-Ok-turn.answer
    c.self.inside.share.amount c.turn.new.share.amount c.self.inside.sealed.amount c.turn.new.handed.amount
    c.self.inside.fulls.amount c.turn.new.told.amount c.in-Ok-copy.ensures.ok c.self.invariant.0
    c.reserve.ensures.items c.push_reserved.ensures.items c.self.invariant.2 c.in-Ok-turn.ensures.counted
    c.in-Ok-turn.ensures.handed.0 c.in-Ok-turn.ensures.told.0 c.in-Ok-turn.ensures.late
    c.in-Ok-turn.ensures.ok)

pub returns-in-Ok-turn-clause-only : goal.returns-in-Ok-turn-clause-only
returns-in-Ok-turn-clause-only g c = search rules

pub returns-in-Err-clause-err : goal.returns-in-Err-clause-err
returns-in-Err-clause-err g c =
    let left =
    (left_so c.self.inside.cpu c.self.inside.receipts.items c.reserve.new.self.items
    c.self.inside.sealed.amount c.turn.new.handed.amount c.self.inside.fulls.amount c.turn.new.told.amount
    c.in-Err.fault c.reserve.ensures.items c.in-Err.ensures.handed.0 c.in-Err.ensures.told.0) in
    search (rules, left)

pub returns-in-Err-clause-only : goal.returns-in-Err-clause-only
returns-in-Err-clause-only g c is one =
    let filled = c.in-Err.ensures.only (c.self.invariant.1 ∙ sym one) (full_still c.in-Err.fault is) in
    let receipts = c.self.inside.receipts in
    rw (← c.self.view_is)
    (fills g.L.Job.layout c.self.inside.sealed.amount c.self.inside.share.amount (length receipts.items)
    (vec_len receipts) (vec_capacity receipts) filled c.self.invariant.2 receipts.ok.0 receipts.ok.1
    receipts.small)
