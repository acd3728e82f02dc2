-- Nothing is anywhere in an empty memory, and each block becomes what the layout says, one after
-- another.
use Rattle.hp_laws.proofs.Boots.{boot-placed}
use Rattle.hp_laws.proofs.placement.boot_is_well_placed.Goals as goal

pub returns : goal.returns
returns c = boot-placed
