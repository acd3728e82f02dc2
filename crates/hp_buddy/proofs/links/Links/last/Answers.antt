use Rattle.hp_buddy.proofs.Views.{last_frame_is, seen}
use Rattle.hp_buddy.proofs.links.Links.last.Goals as goal

pub returns : goal.returns
returns c =
    rw (c.frame_at.ensures, c.prev.ensures, c.head-head.ensures)
    (last_frame_is (seen c.self.invariant c.self.view_is) c.args.list c.requires)
