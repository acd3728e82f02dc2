use Rattle.hp_units.proofs.NumbersSpelled.{numbers_law}
use Rattle.hp_units.proofs.number_words.numbers_are_spelled.Goals as goal

pub returns : goal.returns
returns c = numbers_law
