-- A frame that is in use is in that place alone.
use Rattle.hp_units.proofs.Placed.{kernel-in_use, page-in_use}
use Rattle.hp_buddy.proofs.CpuPlaced.{in_use-put}
use Rattle.hp_buddy.proofs.cpu_laws.frames_in_use_may_be_put.Goals as goal

pub returns-clause-kernel : goal.returns-clause-kernel
returns-clause-kernel c l s frame layout p is = in_use-put l s frame (kernel-in_use l s frame 0 layout p is)

pub returns-clause-page : goal.returns-clause-page
returns-clause-page c l s owner page frame layout p is =
    in_use-put l s frame (page-in_use l s owner page frame layout p is)
