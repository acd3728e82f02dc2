use Rattle.hp_scenario.proofs.usual.pair_after.Goals as goal

pub returns : goal.returns
returns c = (c.number_after.new.reader, c.in_ok-one.ensures, c.in_ok-other.ensures)
