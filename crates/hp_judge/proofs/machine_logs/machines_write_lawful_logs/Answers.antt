-- The log leads from one state to the other, event by event.
use Rattle.hp_laws.proofs.Boots.{boot-placed}
use Rattle.hp_judge.proofs.Histories.{lead-lawful, log_leads, logs_lead}
use Rattle.hp_judge.proofs.machine_logs.machines_write_lawful_logs.Goals as goal

pub returns-clause-history : goal.returns-clause-history
returns-clause-history c l m base h layout size p = lead-lawful m _ _ _ (log_leads l m base h layout size p)

pub returns-clause-histories : goal.returns-clause-histories
returns-clause-histories c l m base hs layout size p =
    lead-lawful m _ _ _ (logs_lead l m base hs layout size p)

pub returns-clause-boot : goal.returns-clause-boot
returns-clause-boot c l m hs layout size =
    lead-lawful m _ _ _ (logs_lead l m _ hs layout size (boot-placed l layout))
