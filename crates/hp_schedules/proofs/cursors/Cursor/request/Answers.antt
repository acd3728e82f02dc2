-- What the line here asks for; where it is over, the next line's call.
use Rattle.std.proofs.Common.{Some, arith, refl}
use Rattle.std.proofs.lemmas.Result.{IfOk-weaker}
use Rattle.hp_laws.proofs.Lists.{get_some}
use Rattle.hp_units.specs.Receipts.{receipts_of}
use Rattle.hp_schedules.proofs.Asked.{past_next, requested, requested_new}
use Rattle.hp_schedules.proofs.cursors.Cursor.request.Goals as goal

pub returns-in-Some : goal.returns-in-Some
returns-in-Some c =
    λ is. requested c.args.cpus c.args.lines.now (receipts_of c.args.cpu c.args.news.now)
    c.args.self.now (Some c.in-Some.request) c.in-Some.request
    (rw c.in-Some.is at c.in_ok-request.ensures) refl is

pub returns-then-self-lines : goal.returns-then-self-lines
returns-then-self-lines c =
    λ is. past_next c.args.cpus c.args.lines.now (receipts_of c.args.cpu c.args.news.now)
    c.args.self.now is c.if-self-lines.true

pub returns : goal.returns
returns c =
    let line = get_some c.args.lines.now c.args.self.now.line (omega (arith, c.if-self-lines.false)) in
    IfOk-weaker c.asked-2.result _ _
    (λ q asked is. requested_new c.args.cpus c.args.lines.now (receipts_of c.args.cpu c.args.news.now)
    c.args.self.now c.new.result
    line.0 q is line.1 (rw c.in_default.is at c.in_ok-request.ensures) c.new.ensures asked)
    c.asked-2.ensures
