use Rattle.hp_buddy.proofs.Views.{apart, seen}
use Rattle.hp_buddy.proofs.links.Links.are_apart.Goals as goal

pub returns : goal.returns
returns c = apart (seen c.self.invariant c.self.view_is)
