-- A frame that is in use is in that place alone.
use Rattle.hp_units.proofs.Placed.{kernel-in_use, page-in_use}
use Rattle.hp_buddy.proofs.Placed.{in_use-given}
use Rattle.hp_buddy.proofs.laws.blocks_in_use_may_be_given.Goals as goal

pub returns-clause-kernel : goal.returns-clause-kernel
returns-clause-kernel c l s first order layout p is =
    in_use-given l s order first (kernel-in_use l s first order layout p is)

pub returns-clause-page : goal.returns-clause-page
returns-clause-page c l s owner page frame layout p is =
    in_use-given l s 0 frame (page-in_use l s owner page frame layout p is)
