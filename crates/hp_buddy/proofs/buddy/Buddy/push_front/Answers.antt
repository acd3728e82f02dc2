use Rattle.std.proofs.Common.{ap}
use Rattle.hp_buddy.specs.Buddy.{BuddyValue}
use Rattle.hp_buddy.proofs.Notes.{Seen, frame-there, front-areas, kept-with, list-there, order-small, seen-front, seen-unlisted}
use Rattle.hp_buddy.proofs.buddy.Buddy.push_front.Goals as goal

pub push_front-requires-clause-free : goal.push_front-requires-clause-free
push_front-requires-clause-free c =
    let b = c.self.inside in
    seen-unlisted c.args.self.now b.layout b.links b.kinds.items c.args.frame
    (record { is = c.self.view_is; kept = c.self.invariant }) c.requires.unfree

pub returns-clause-notes : goal.returns-clause-notes
returns-clause-notes c =
    let b = c.self.inside in
    let v = c.args.self.now in
    let seen : Seen v b.layout b.links b.kinds.items =
    record { is = c.self.view_is; kept = c.self.invariant } in
    rw (front-areas v b.layout b.links c.push_front.new.self b.kinds.items c.args.class c.args.order
    c.args.frame c.area_list.result seen c.area_list.ensures c.push_front.ensures)
    (seen-front v b.layout b.links b.kinds.items c.args.class c.args.order c.args.frame c.args.tape.now
    c.note.new.self c.link_delta.result seen c.requires.order c.requires.frame c.requires.unfree
    c.note.ensures.room c.note.ensures.noted c.link_delta.ensures)

pub area_list-requires : goal.area_list-requires
area_list-requires c = order-small c.self.invariant c.self.view_is c.requires.order

pub push_front-requires-clause-list_in : goal.push_front-requires-clause-list_in
push_front-requires-clause-list_in c =
    list-there c.args.class c.self.invariant c.self.view_is c.requires.order c.area_list.ensures

pub push_front-requires-clause-frame_in : goal.push_front-requires-clause-frame_in
push_front-requires-clause-frame_in c = frame-there c.self.invariant c.self.view_is c.requires.frame

pub invariant_of-self : goal.invariant_of-self
invariant_of-self c = kept-with _ _ c.self.invariant c.push_front.ensures

pub returns-clause-areas : goal.returns-clause-areas
returns-clause-areas c =
    let b = c.self.inside in
    front-areas c.args.self.now b.layout b.links c.push_front.new.self b.kinds.items c.args.class c.args.order
    c.args.frame c.area_list.result (record { is = c.self.view_is; kept = c.self.invariant })
    c.area_list.ensures c.push_front.ensures

pub returns-clause-layout : goal.returns-clause-layout
returns-clause-layout c = ap (λ (v : BuddyValue). v.layout) c.self.view_is
