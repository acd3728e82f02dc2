-- One of another part is left at once.
use Rattle.std.proofs.Common.{ℕ, arith, inl, subst, sym, ◌∙◌}
use Rattle.std.proofs.lemmas.List.{length-map}
use Rattle.std.proofs.lemmas.Result.{IfOk-weaker}
use Rattle.hp_schedules.specs.Parts.{IsOn}
use Rattle.hp_schedules.specs.Schedules.{schedule_of}
use Rattle.hp_states.proofs.Entered.{entered_fresh, left_out, let_in}
use Rattle.hp_states.proofs.arrivals.arrive.Goals as goal

pub come_to-requires-clause-way : goal.come_to-requires-clause-way
come_to-requires-clause-way o c =
    let at = c.requires.arrival in
    (at.0, c.args.records.now, at.1.stood.place, at.1.stood.way)

pub enter-requires-clause-stood : goal.enter-requires-clause-stood
enter-requires-clause-stood o c =
    let at = c.requires.arrival in
    (at.0, c.args.records.now, at.1.stood)

pub returns-then-leaves_out-clause-ok : goal.returns-then-leaves_out-clause-ok
returns-then-leaves_out-clause-ok o c =
    λ g at.
    left_out g c.args.part c.args.records.now c.args.processors c.args.tally.now
    (c.requires.processors ∙ at.stood.place.cursors_are.many)
    (omega (arith, c.if-records-calls.false, c.calls.ensures))
    (c.leaves_out.ensures.out c.if-leaves_out.true) at.walked

pub returns-then-records-calls-clause-ok : goal.returns-then-records-calls-clause-ok
returns-then-records-calls-clause-ok o c =
    λ g at.
    entered_fresh g c.args.records.now c.args.part c.args.tally.now c.new.result
    (inl (omega
    (arith, c.if-records-calls.true, c.calls.ensures, length-map c.args.records.now (λ r. r.cpu)))) at.walked
    c.new.ensures

pub leaves_out-requires-clause-long : goal.leaves_out-requires-clause-long
leaves_out-requires-clause-long o c = omega (arith, c.if-records-calls.false, c.calls.ensures)

pub leaves_out-requires-clause-on : goal.leaves_out-requires-clause-on
leaves_out-requires-clause-on o c =
    let at = c.requires.arrival.1 in
    subst (λ (n : ℕ). IsOn n c.args.part (schedule_of c.args.records.now))
    (sym (c.requires.processors ∙ at.stood.place.cursors_are.many)) at.on

pub returns-clause-ok : goal.returns-clause-ok
returns-clause-ok o c =
    IfOk-weaker c.enter.result _ _
    (λ treatment entered g at. let_in g c.args.records.now c.args.part c.args.processors c.args.tally.now
    c.enter.new.tally treatment (c.requires.processors ∙ at.stood.place.cursors_are.many)
    (omega (arith, c.if-records-calls.false, c.calls.ensures))
    (c.leaves_out.ensures.within c.if-leaves_out.false) at.walked
    (entered g c.args.records.now at.stood))
    c.enter.ensures.ok
