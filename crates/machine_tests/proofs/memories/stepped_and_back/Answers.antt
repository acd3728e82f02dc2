-- What the step noted leads back.
use Rattle.hp_units.specs.declared.events.Event.TheVariants.{KernelAlloc}
use Rattle.hp_tape.specs.Bounds.{delta_bound}
use Rattle.hp_memory.proofs.MemorySteps.{step-leads}
use Rattle.machine_tests.proofs.memories.stepped_and_back.Goals as goal

pub back-requires-clause-leads : goal.back-requires-clause-leads
back-requires-clause-leads c =
    let m = c.args.memory.now in (
      m.state,
      step-leads m.layout c.step.new.self.layout (delta_bound m.layout m.state (KernelAlloc 1))
          c.len-mark.result c.args.tape.now.deltas c.step.new.tape.deltas c.step.new.self.state m.state
          c.is_placed.ensures.placed c.in_ok-reply.ensures.noted c.len-mark.ensures c.step.ensures.layout,
    )
