use Rattle.std.proofs.Common.{ap}
use Rattle.hp_buddy.specs.Buddy.{BuddyValue}
use Rattle.hp_buddy.proofs.Notes.{UnlinkSeen, kept-off, seen-listed, seen-unlink}
use Rattle.hp_buddy.proofs.buddy.Buddy.unlink_free.Goals as goal
use Rattle.hp_buddy.proofs.buddy.Buddy.unlink_free.Goals.{After-note}

pub unlink-after-requires : goal.unlink-after-requires
unlink-after-requires c =
    let b = c.self.inside in
    seen-listed c.args.self.now b.layout b.links b.kinds.items c.args.class c.args.order c.args.frame
    (record { is = c.self.view_is; kept = c.self.invariant }) c.requires.free

seen : (c : After-note)
    → UnlinkSeen c.args.self.now c.unlink-after.new.self c.self.inside.kinds.items c.args.class c.args.order
    c.args.frame c.args.tape.now c.note.new.self
seen c =
    let b = c.self.inside in
    let u = c.unlink-after.ensures in
    seen-unlink c.args.self.now b.layout b.links c.unlink-after.new.self b.kinds.items c.args.class
    c.args.order c.args.frame c.unlink-after.result c.args.tape.now c.note.new.self c.unlink_delta.result
    (record { is = c.self.view_is; kept = c.self.invariant }) c.requires.order c.requires.frame
    c.requires.free
    (record { free = u.free; one_list = u.one_list; before_on = u.before_on; undone = u.undone })
    c.note.ensures.room c.note.ensures.noted c.unlink_delta.ensures

pub returns-clause-areas : goal.returns-clause-areas
returns-clause-areas c = (seen (goal.at.returns-clause-areas c).After-note).areas

pub returns-clause-notes : goal.returns-clause-notes
returns-clause-notes c = (seen (goal.at.returns-clause-notes c).After-note).notes

pub invariant_of-self : goal.invariant_of-self
invariant_of-self c = kept-off _ c.self.invariant c.unlink-after.ensures.links

pub returns-clause-layout : goal.returns-clause-layout
returns-clause-layout c = ap (λ (v : BuddyValue). v.layout) c.self.view_is
