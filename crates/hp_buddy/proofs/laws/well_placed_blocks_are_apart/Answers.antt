-- No frame is in two places.
use Rattle.hp_buddy.proofs.Placed.{placed-apart}
use Rattle.hp_buddy.proofs.laws.well_placed_blocks_are_apart.Goals as goal

pub returns : goal.returns
returns c l s layout p = placed-apart l s layout p
