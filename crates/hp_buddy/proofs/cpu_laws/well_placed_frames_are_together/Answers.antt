-- No frame is in two places.
use Rattle.hp_buddy.proofs.CpuPlaced.{placed-together}
use Rattle.hp_buddy.proofs.cpu_laws.well_placed_frames_are_together.Goals as goal

pub returns : goal.returns
returns c l s layout p = placed-together l s layout p
