use Rattle.std.proofs.Common.{ℕ, ap, ◌∙◌}
use Rattle.hp_buddy.specs.LinkedLists.{last, list_at}
use Rattle.hp_buddy.specs.Buddy.{BuddyValue}
use Rattle.hp_buddy.proofs.Notes.{Seen, back-areas, frame-there, kept-with, list-there, order-small, seen-back, seen-unlisted}
use Rattle.hp_buddy.proofs.buddy.Buddy.push_back.Goals as goal

pub push_back-requires-clause-free : goal.push_back-requires-clause-free
push_back-requires-clause-free c =
    let b = c.self.inside in
    seen-unlisted c.args.self.now b.layout b.links b.kinds.items c.args.frame
    (record { is = c.self.view_is; kept = c.self.invariant }) c.requires.unfree

pub returns-clause-notes : goal.returns-clause-notes
returns-clause-notes c =
    let b = c.self.inside in
    let v = c.args.self.now in
    let seen : Seen v b.layout b.links b.kinds.items =
    record { is = c.self.view_is; kept = c.self.invariant } in
    rw (back-areas v b.layout b.links c.push_back.new.self b.kinds.items c.args.class c.args.order
    c.args.frame c.area_list-2.result seen c.area_list-2.ensures c.push_back.ensures)
    (seen-back v b.layout b.links b.kinds.items c.args.class c.args.order c.args.frame c.last-after.result
    c.args.tape.now c.note.new.self c.link_delta.result seen c.requires.order c.requires.frame c.requires.once
    c.requires.unfree (c.last-after.ensures ∙ ap (λ (n : ℕ). last (list_at b.links n)) c.area_list.ensures)
    c.note.ensures.room c.note.ensures.noted c.link_delta.ensures)

pub area_list-requires : goal.area_list-requires
area_list-requires c = order-small c.self.invariant c.self.view_is c.requires.order

pub area_list-requires-2 : goal.area_list-requires-2
area_list-requires-2 c = order-small c.self.invariant c.self.view_is c.requires.order

pub last-after-requires : goal.last-after-requires
last-after-requires c =
    list-there c.args.class c.self.invariant c.self.view_is c.requires.order c.area_list.ensures

pub push_back-requires-clause-list_in : goal.push_back-requires-clause-list_in
push_back-requires-clause-list_in c =
    list-there c.args.class c.self.invariant c.self.view_is c.requires.order c.area_list-2.ensures

pub push_back-requires-clause-frame_in : goal.push_back-requires-clause-frame_in
push_back-requires-clause-frame_in c = frame-there c.self.invariant c.self.view_is c.requires.frame

pub invariant_of-self : goal.invariant_of-self
invariant_of-self c = kept-with _ _ c.self.invariant c.push_back.ensures

pub returns-clause-areas : goal.returns-clause-areas
returns-clause-areas c =
    let b = c.self.inside in
    back-areas c.args.self.now b.layout b.links c.push_back.new.self b.kinds.items c.args.class c.args.order
    c.args.frame c.area_list-2.result (record { is = c.self.view_is; kept = c.self.invariant })
    c.area_list-2.ensures c.push_back.ensures

pub returns-clause-layout : goal.returns-clause-layout
returns-clause-layout c = ap (λ (v : BuddyValue). v.layout) c.self.view_is
