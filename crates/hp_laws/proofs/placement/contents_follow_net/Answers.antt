-- No step of the net was refused, so each changes the contents by its event alone.
use Rattle.hp_laws.proofs.NetContents.{value-contents}
use Rattle.hp_laws.proofs.placement.contents_follow_net.Goals as goal

pub returns : goal.returns
returns c = value-contents
