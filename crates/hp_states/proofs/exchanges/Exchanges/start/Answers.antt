-- The empty chain, and its number for each processor.
use Rattle.hp_states.proofs.exchanges.Exchanges.start.Goals as goal

pub returns : goal.returns
returns c = rw (c.new.ensures, c.in_ok-here.ensures.items_if_clones_equal (λ y is. is))
