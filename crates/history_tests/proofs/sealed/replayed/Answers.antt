-- The base of each machine is well placed, so its records can be replayed from there.
use Rattle.history_tests.proofs.SealedMachines.{replay_fault, replay_value}
use Rattle.history_tests.proofs.sealed.replayed.Goals as goal

pub returns-clause-value : goal.returns-clause-value
returns-clause-value c =
    replay_value c.args.machine.now c.base.result.now c.sealed.result c.history.result.now
    c.replay_from.result
    (record {
      base_is = c.base.ensures;
      before_is = c.sealed.ensures;
      history_is = c.history.ensures.records;
      kept = c.history.ensures.kept;
    })
    c.replay_from.ensures.value

pub returns-clause-fault : goal.returns-clause-fault
returns-clause-fault c =
    replay_fault c.args.machine.now c.base.result.now c.sealed.result c.history.result.now
    c.replay_from.result
    (record {
      base_is = c.base.ensures;
      before_is = c.sealed.ensures;
      history_is = c.history.ensures.records;
      kept = c.history.ensures.kept;
    })
    c.replay_from.ensures.only
