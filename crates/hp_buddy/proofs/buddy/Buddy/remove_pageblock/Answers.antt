use Rattle.std.proofs.Common.{◌≡◌, subst, sym, ap, ◌∙◌, ◌*◌, arith}
use Rattle.hp_units.specs.LayoutParts.{LayoutParts}
use Rattle.hp_units.specs.Arithmetic.{pageblock_size}
use Rattle.hp_buddy.specs.Buddy.{BuddyValue, AreApart}
use Rattle.hp_buddy.proofs.Blocks.{Removes, block_removed}
use Rattle.hp_buddy.proofs.Calls.{notes-then, room_left}
use Rattle.hp_buddy.proofs.buddy.Buddy.remove_pageblock.Goals as goal
use Rattle.hp_buddy.proofs.buddy.Buddy.remove_pageblock.Goals.{After-set_kind}

pub returns-clause-notes : goal.returns-clause-notes
returns-clause-notes c =
    notes-then c.args.self.now.layout c.unlink_free.new.self.layout 1 1 2 c.args.tape.now
    c.unlink_free.new.tape c.set_kind.new.tape
    c.args.self.now.areas c.unlink_free.new.self.areas c.set_kind.new.self.areas c.unlink_free.ensures.layout
    (omega arith) c.unlink_free.ensures.notes c.set_kind.ensures.notes

removes : (c : After-set_kind)
    → Removes c.args.self.now.layout c.args.self.now.areas c.args.self.now.layout.order
    (c.args.pageblock * pageblock_size c.args.self.now.layout) c.set_kind.new.self.areas
removes c =
    block_removed c.args.self.now.layout c.args.self.now.areas c.unlink_free.new.self.areas
    c.set_kind.new.self.areas c.isolated.result c.order.result c.args.self.now.layout.order
    c.first_frame-first.result
    (c.args.pageblock * pageblock_size c.args.self.now.layout) c.args.pageblock c.plain.result
    (c.order.ensures.is ∙ ap (λ (v : BuddyValue). v.layout.order) c.self.view_is)
    c.first_frame-first.ensures (omega arith)
    (rw c.isolated.ensures c.requires.free)
    c.unlink_free.ensures.areas c.set_kind.ensures.areas c.requires.apart

pub returns-clause-apart : goal.returns-clause-apart
returns-clause-apart c =
    subst (λ (l : LayoutParts). AreApart l c.set_kind.new.self.areas) (sym (c.set_kind.ensures.layout
    ∙ c.unlink_free.ensures.layout)) (removes (goal.at.returns-clause-apart c).After-set_kind).apart

pub returns-clause-places : goal.returns-clause-places
returns-clause-places c = (removes (goal.at.returns-clause-places c).After-set_kind).places

pub unlink_free-requires-clause-order : goal.unlink_free-requires-clause-order
unlink_free-requires-clause-order c =
    let same : c.self.inside.layout.order ≡ c.args.self.now.layout.order =
    ap (λ (v : BuddyValue). v.layout.order) c.self.view_is in
    omega (arith, c.order.ensures.is)

pub set_kind-requires-clause-pageblock : goal.set_kind-requires-clause-pageblock
set_kind-requires-clause-pageblock c = rw c.unlink_free.ensures.layout c.requires.pageblock

pub set_kind-requires-clause-room : goal.set_kind-requires-clause-room
set_kind-requires-clause-room c =
    room_left c.args.self.now.layout 1 1 c.args.tape.now c.unlink_free.new.tape c.args.self.now.areas
    c.unlink_free.new.self.areas c.unlink_free.ensures.notes c.requires.room

pub returns-clause-layout : goal.returns-clause-layout
returns-clause-layout c = c.set_kind.ensures.layout ∙ c.unlink_free.ensures.layout
