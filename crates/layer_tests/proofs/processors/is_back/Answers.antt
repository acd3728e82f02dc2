-- Whatever the free areas are, the list is empty.
use Rattle.std.proofs.Common.{refl}
use Rattle.hp_units.specs.Boot.{empty_areas}
use Rattle.layer_tests.specs.SmallLayouts.{two_blocks}
use Rattle.layer_tests.proofs.processors.is_back.Goals as goal

pub back-requires-clause-fits : goal.back-requires-clause-fits
back-requires-clause-fits c = (empty_areas two_blocks, rw c.requires.cached refl)
