use Rattle.hp_buddy.proofs.Views.{front_is, seen}
use Rattle.hp_buddy.proofs.links.Links.front.Goals as goal

pub returns : goal.returns
returns c =
    rw (c.frame_at.ensures, c.next.ensures, c.head-head.ensures)
    (front_is (seen c.self.invariant c.self.view_is) c.args.list c.requires)
