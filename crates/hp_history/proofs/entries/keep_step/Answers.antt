-- What is no step leads back to the same state.
use Rattle.hp_history.proofs.entries.keep_step.Goals as goal

pub back-requires-clause-leads : goal.back-requires-clause-leads
back-requires-clause-leads c = (c.args.memory.now.state, c.requires.same c.if-is_step.false)

pub returns-else-is_step-clause-state : goal.returns-else-is_step-clause-state
returns-else-is_step-clause-state c =
    c.back.ensures.state c.args.memory.now.state (c.requires.same c.if-is_step.false)
