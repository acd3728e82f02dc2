use Rattle.hp_live.proofs.Numbered.{front_as_serial, line_as_serial}
use Rattle.hp_live.proofs.laws.results_have_the_numbers_of_serial.Goals as goal

pub returns-clause-line : goal.returns-clause-line
returns-clause-line c = line_as_serial

pub returns-clause-front : goal.returns-clause-front
returns-clause-front c = front_as_serial
