use Rattle.std.proofs.Common.{◌<◌, ap, arith}
use Rattle.hp_buddy.specs.LinkedLists.{LinkedLists, list_at}
use Rattle.hp_buddy.proofs.Views.{apart, behind_is, seen}
use Rattle.hp_buddy.proofs.Members.{Member-from_Contains}
use Rattle.hp_buddy.proofs.links.Links.after.Goals as goal

pub next-requires : goal.next-requires
next-requires c =
    let low : c.args.frame < c.args.self.now.frame_count =
    (apart (seen c.self.invariant c.self.view_is)).in_range c.requires.0 c.args.frame c.requires.1 in
    omega (
      arith,
      low,
      c.place_of.ensures,
      c.self.inside.rings.sized,
      ap (λ (v : LinkedLists). v.frame_count) c.self.view_is,
    )

pub returns : goal.returns
returns c =
    let s = seen c.self.invariant c.self.view_is in
    λ l on. rw (c.frame_at.ensures, c.next.ensures, c.place_of.ensures)
    (behind_is s l c.args.frame (Member-from_Contains c.args.frame (list_at c.args.self.now l) on))
