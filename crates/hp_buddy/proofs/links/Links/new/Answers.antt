use Rattle.std.proofs.Common.{[], replicate}
use Rattle.hp_buddy.specs.Rings.{table}
use Rattle.hp_buddy.proofs.Shown.{Linked-new, keeps, shows}
use Rattle.hp_buddy.proofs.links.Links.new.Goals as goal

pub invariant_of-result : goal.invariant_of-result
invariant_of-result c =
    let r = c.in_ok-rings.rings in
    keeps r.frames (table r.nodes.items) r.lens.items (replicate c.args.lists [])
    (Linked-new r.frames c.args.lists (table r.nodes.items) r.lens.items
    (rw c.in_ok-rings.ensures.frames c.in_ok-rings.ensures.alone) c.in_ok-rings.ensures.lens)

pub returns : goal.returns
returns c =
    let r = c.in_ok-rings.rings in
    rw (← c.in_ok-rings.ensures.frames) (shows r.frames (table r.nodes.items) r.lens.items
    (replicate c.args.lists []) (Linked-new r.frames c.args.lists (table r.nodes.items) r.lens.items
    (rw c.in_ok-rings.ensures.frames c.in_ok-rings.ensures.alone) c.in_ok-rings.ensures.lens))
