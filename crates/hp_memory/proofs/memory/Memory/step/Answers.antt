use Rattle.std.proofs.Common.{OnOk}
use Rattle.std.proofs.lemmas.Result.{on_ok_weaker}
use Rattle.hp_units.specs.Step.{step}
use Rattle.hp_layers.specs.Layers.{state_of}
use Rattle.hp_layers.proofs.States.{IsKept, kept_ok, kept_placed}
use Rattle.hp_memory.proofs.memory.Memory.step.Goals as goal
use Rattle.hp_memory.proofs.memory.Memory.step.Goals.{After-step}

here : (c : After-step)
    → OnOk c.step.result (IsKept c.self.inside.layers c.step.new.self c.args.event.now (step
    c.self.inside.layers.layout (state_of c.self.inside.layers) c.args.serial c.args.cpu
    c.args.event.now) c.args.tape.now.deltas c.step.new.tape.deltas)
here c =
    kept_ok c.self.inside.layers c.step.new.self c.args.event.now c.args.serial c.args.cpu
    c.args.tape.now.deltas c.step.new.tape.deltas c.step.result c.self.invariant c.step.ensures.ok

pub invariant_of-self : goal.invariant_of-self
invariant_of-self c =
    kept_placed c.self.inside.layers c.step.new.self c.args.event.now c.args.serial c.args.cpu
    c.args.tape.now.deltas c.step.new.tape.deltas c.step.result c.self.invariant c.step.ensures.ok
    c.step.ensures.err

pub returns-clause-state : goal.returns-clause-state
returns-clause-state c =
    let m = c.self.inside.layers in
    let after = step m.layout (state_of m) c.args.serial c.args.cpu c.args.event.now in
    rw (← c.self.view_is)
    (on_ok_weaker c.step.result (λ (k : IsKept m c.step.new.self c.args.event.now after c.args.tape.now.deltas
    c.step.new.tape.deltas). k.state) (here (goal.at.returns-clause-state c).After-step))

pub returns-clause-noted : goal.returns-clause-noted
returns-clause-noted c =
    let m = c.self.inside.layers in
    let after = step m.layout (state_of m) c.args.serial c.args.cpu c.args.event.now in
    rw (← c.self.view_is)
    (on_ok_weaker c.step.result (λ (k : IsKept m c.step.new.self c.args.event.now after c.args.tape.now.deltas
    c.step.new.tape.deltas). k.noted) (here (goal.at.returns-clause-noted c).After-step))
