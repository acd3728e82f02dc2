use Rattle.hp_live.proofs.Together.{answers_read, answers_resume, answers_serve, answers_write}
use Rattle.hp_live.proofs.laws.answers_are_what_serial_writes.Goals as goal

pub returns-clause-lines : goal.returns-clause-lines
returns-clause-lines c = answers_write

pub returns-clause-read : goal.returns-clause-read
returns-clause-read c = answers_read

pub returns-clause-serial : goal.returns-clause-serial
returns-clause-serial c = answers_serve

pub returns-clause-resumed : goal.returns-clause-resumed
returns-clause-resumed c = answers_resume
