use Rattle.std.proofs.Common.{◌≡◌, drop, sym, subst}
use Rattle.hp_units.specs.Memory.{Memory}
use Rattle.hp_layers.specs.Layers.{ArePlaced, state_of}
use Rattle.hp_memory.specs.Memory.{LeadsBack, MemoryValue}
use Rattle.hp_memory.proofs.MemorySteps.{led_back}
use Rattle.hp_memory.proofs.memory.Memory.back.Goals as goal
use Rattle.hp_memory.proofs.memory.Memory.back.Goals.{After-unwind}

here : (c : After-unwind) (s : Memory)
    → LeadsBack c.args.self.now.layout (drop c.args.mark c.args.tape.now.deltas) c.args.self.now.state s
    → (ArePlaced c.unwind.new.self) × (state_of c.unwind.new.self ≡ s)
here c s back =
    led_back c.self.inside.layers c.unwind.new.self (drop c.args.mark c.args.tape.now.deltas) s
    c.self.invariant c.unwind.ensures.one c.unwind.ensures.layout c.unwind.ensures.back
    (subst (λ (v : MemoryValue). LeadsBack v.layout (drop c.args.mark c.args.tape.now.deltas) v.state s)
    (sym c.self.view_is) back)

pub invariant_of-self : goal.invariant_of-self
invariant_of-self c =
    (here (goal.at.invariant_of-self c).After-unwind c.requires.leads.0 c.requires.leads.1).0

pub returns-clause-state : goal.returns-clause-state
returns-clause-state c = λ s back. (here (goal.at.returns-clause-state c).After-unwind s back).1
