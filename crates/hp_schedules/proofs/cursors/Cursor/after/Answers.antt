-- A line of one call is over; a plan goes on by its driver.
use Rattle.std.proofs.Common.{◌+◌, ◌∙◌, ap, refl, sym}
use Rattle.std.proofs.lemmas.Option.{slice_get_read}
use Rattle.hp_units.specs.Receipts.{receipt_of}
use Rattle.hp_schedules.specs.Cursors.{cursor_at}
use Rattle.hp_schedules.proofs.UpTo.{settled_run}
use Rattle.hp_schedules.proofs.Asked.{answered_new, answered_run}
use Rattle.hp_schedules.proofs.cursors.Cursor.after.Goals as goal

pub returns-then-is_one_call-clause-moved : goal.returns-then-is_one_call-clause-moved
returns-then-is_one_call-clause-moved c =
    λ receipts event is asked.
    answered_new c.args.cpus c.args.lines.now receipts c.args.self.now c.new.result
    c.in-Some.line.now (receipt_of c.args.latest.now)
    (slice_get_read _ _ _ _ refl c.in-Some.ensures.lookup.3.0 c.in-Some.ensures.lookup.1)
    (sym c.is_one_call.ensures ∙ c.if-is_one_call.true)
    (c.new.ensures
    ∙ ap (cursor_at c.args.cpus c.args.lines.now (c.args.self.now.line + 1)) c.later_operation-op.ensures)
    is

pub returns-clause-moved : goal.returns-clause-moved
returns-clause-moved c =
    λ receipts event is asked. answered_run c.args.cpus c.args.lines.now receipts c.args.self.now
    _ c.in-Some.line.now (receipt_of c.args.latest.now) event
    (slice_get_read _ _ _ _ refl c.in-Some.ensures.lookup.3.0 c.in-Some.ensures.lookup.1)
    (sym c.is_one_call.ensures ∙ c.if-is_one_call.false) asked refl c.later_operation-op.ensures
    c.answer.ensures is

pub returns-clause-settled : goal.returns-clause-settled
returns-clause-settled c =
    λ receipts event is asked. settled_run c.args.cpus c.args.lines.now receipts c.args.self.now
    (record {
      line = c.args.self.now.line;
      op = c.later_operation-op.result;
      driver = c.answer.new.self;
    }) c.in-Some.line.now (receipt_of c.args.latest.now)
    (slice_get_read _ _ _ _ refl c.in-Some.ensures.lookup.3.0 c.in-Some.ensures.lookup.1)
    (sym c.is_one_call.ensures ∙ c.if-is_one_call.false) refl c.answer.ensures is
