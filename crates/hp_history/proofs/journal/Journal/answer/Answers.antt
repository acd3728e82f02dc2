use Rattle.std.proofs.Common.{refl, sym, subst}
-- An event that is no UndoAfter and no Cancel is a step, and only a step may need memory.
use Rattle.hp_history.specs.Kept.{IsStep}
use Rattle.hp_history.proofs.Cuts.{acts, step_needs}
use Rattle.hp_history.proofs.Names.{Event}
use Rattle.hp_history.proofs.Undone.{acted}
use Rattle.hp_history.proofs.journal.Journal.answer.Goals as goal

pub act-requires-in_default : goal.act-requires-in_default
act-requires-in_default c = record {
  free = c.requires.free;
  step = acts c.args.self.now c.args.cpu c.args.event.now c.in_default.not-UndoAfter c.in_default.not-Cancel;
}

pub returns-in-UndoAfter-clause-succeeds : goal.returns-in-UndoAfter-clause-succeeds
returns-in-UndoAfter-clause-succeeds c = λ _. refl

pub returns-in-Some-clause-succeeds : goal.returns-in-Some-clause-succeeds
returns-in-Some-clause-succeeds c = λ _. refl

pub returns-in-None-clause-succeeds : goal.returns-in-None-clause-succeeds
returns-in-None-clause-succeeds c =
    λ need. absurd (step_needs c.args.self.now c.args.cpu c.args.event.now
    (subst (λ (e : Event). IsStep c.args.self.now c.args.cpu e) (sym c.in-Cancel.is) c.in-None.ensures.step)
    (λ serial e. cc (e, c.in-Cancel.is)) need)

pub returns-in_default-clause-succeeds : goal.returns-in_default-clause-succeeds
returns-in_default-clause-succeeds c =
    λ need. absurd (step_needs c.args.self.now c.args.cpu c.args.event.now
    (acts c.args.self.now c.args.cpu c.args.event.now c.in_default.not-UndoAfter c.in_default.not-Cancel)
    c.in_default.not-UndoAfter need)

pub returns-in-UndoAfter-clause-back : goal.returns-in-UndoAfter-clause-back
returns-in-UndoAfter-clause-back c = λ _. c.go_back.ensures.back

pub returns-in-Some-clause-back : goal.returns-in-Some-clause-back
returns-in-Some-clause-back c = λ _. c.go_back-in-Some.ensures.back

pub returns-in-None-clause-back : goal.returns-in-None-clause-back
returns-in-None-clause-back c =
    acted c.args.self.now c.act.new.self c.args.cpu c.args.event.now c.act.result
    (step_needs c.args.self.now c.args.cpu c.args.event.now
    (subst (λ (e : Event). IsStep c.args.self.now c.args.cpu e) (sym c.in-Cancel.is) c.in-None.ensures.step)
    (λ serial e. cc (e, c.in-Cancel.is))) c.act.ensures.ok

pub returns-in_default-clause-back : goal.returns-in_default-clause-back
returns-in_default-clause-back c =
    acted c.args.self.now c.act-in_default.new.self c.args.cpu c.args.event.now c.act-in_default.result
    (step_needs c.args.self.now c.args.cpu c.args.event.now
    (acts c.args.self.now c.args.cpu c.args.event.now c.in_default.not-UndoAfter c.in_default.not-Cancel)
    c.in_default.not-UndoAfter) c.act-in_default.ensures.ok
