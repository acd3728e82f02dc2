-- The states before the last record are those of the shorter history.
use Rattle.hp_judge.proofs.Histories.{log-push}
use Rattle.hp_judge.proofs.Unchanged.{step_none}
use Rattle.hp_judge.proofs.machine_logs.logs_grow_by_steps.Goals as goal

pub returns-clause-unchanged : goal.returns-clause-unchanged
returns-clause-unchanged c = step_none

pub returns-clause-more : goal.returns-clause-more
returns-clause-more c = log-push
