-- Each event leads from what one state shows to what the next one shows.
use Rattle.hp_judge.proofs.Histories.{log_leads, logs_lead}
use Rattle.hp_judge.proofs.Sequences.{after-log}
use Rattle.hp_judge.proofs.machine_logs.logs_show_their_state.Goals as goal

pub returns-clause-history : goal.returns-clause-history
returns-clause-history c l m base h layout size p = after-log m _ _ _ (log_leads l m base h layout size p)

pub returns-clause-histories : goal.returns-clause-histories
returns-clause-histories c l m base hs layout size p = after-log m _ _ _ (logs_lead l m base hs layout size p)
