use Rattle.hp_judge.specs.Logs.{block_events}
use Rattle.hp_judge.specs.Turns.{phase_seen}
use Rattle.hp_judge.proofs.StepShown.{turned}
use Rattle.hp_judge.proofs.StepWalks.{items_more}
use Rattle.hp_judge.proofs.step_logs.push_block_events.Goals as goal

pub loop-number-preserved : goal.loop-number-preserved
loop-number-preserved c = λ s t p q.
    items_more (block_events s t) c.loop-number.number c.args.log.now.items c.loop-number.log.items
    c.push_phase_events.new.log.items (c.loop-number.invariant s t p q)
    (turned c.args.layout.now s t c.args.before.now c.args.after.now c.loop-number.number
    (phase_seen c.phase.result) (phase_seen c.phase-in-loop-number.result) c.loop-number.log.items
    c.push_phase_events.new.log.items p q c.phase.ensures c.phase-in-loop-number.ensures
    c.in_ok-push_phase_events.ensures)
