-- The front block leaves its list, and its halves come to theirs.
use Rattle.std.proofs.Common.{◌+◌, ◌-◌, arith, ◌∙◌}
use Rattle.hp_units.specs.Memory.{free_list}
use Rattle.hp_buddy.proofs.Notes.{list-there, order-small}
use Rattle.hp_buddy.proofs.Splits.{IsLeft}
use Rattle.hp_buddy.proofs.Calls.{IsFront, seen-front_is, front_frame, front_free, front_taken, notes-then, room_left}
use Rattle.hp_buddy.proofs.buddy.Buddy.take_front.Goals as goal
use Rattle.hp_buddy.proofs.buddy.Buddy.take_front.Goals.{In-Some, After-unlink_free}

is_front : (c : In-Some) → IsFront c.in-Some.frame (free_list c.args.self.now.areas c.args.class c.args.order)
is_front c =
    let b = c.self.inside in
    seen-front_is c.args.self.now b.layout b.links b.kinds.items c.args.class c.args.order
    c.area_list.result c.in-Some.frame (record { is = c.self.view_is; kept = c.self.invariant })
    c.area_list.ensures c.in-Some.ensures

pub unlink_free-requires-clause-frame : goal.unlink_free-requires-clause-frame
unlink_free-requires-clause-frame c =
    front_frame c.args.self.now.layout c.args.self.now.areas c.args.class c.args.order c.in-Some.frame
    c.requires.apart (is_front (goal.at.unlink_free-requires-clause-frame c).In-Some)

is_left : (c : After-unlink_free)
    → IsFront c.in-Some.frame (free_list c.args.self.now.areas c.args.class c.args.order)
    → IsLeft c.args.self.now.layout c.unlink_free.new.self.areas c.args.order c.in-Some.frame
is_left c front =
    front_free c.args.self.now.layout c.args.self.now.areas c.unlink_free.new.self.areas c.args.class
    c.args.order c.in-Some.frame c.requires.apart c.requires.order
    front c.unlink_free.ensures.areas

pub put_halves-requires-clause-apart : goal.put_halves-requires-clause-apart
put_halves-requires-clause-apart c =
    rw c.unlink_free.ensures.layout (is_left (goal.at.put_halves-requires-clause-apart c).After-unlink_free
    (is_front (goal.at.put_halves-requires-clause-apart c).In-Some)).apart

pub put_halves-requires-clause-block : goal.put_halves-requires-clause-block
put_halves-requires-clause-block c =
    rw c.unlink_free.ensures.layout (is_left (goal.at.put_halves-requires-clause-block c).After-unlink_free
    (is_front (goal.at.put_halves-requires-clause-block c).In-Some)).rest

pub returns-in-Some-clause-taken : goal.returns-in-Some-clause-taken
returns-in-Some-clause-taken c =
    front_taken c.args.self.now.layout c.args.self.now.areas c.unlink_free.new.self.areas
    c.put_halves.new.self.areas c.args.class c.args.rest c.args.order c.args.wanted c.in-Some.frame
    c.requires.apart c.requires.order (is_front (goal.at.returns-in-Some-clause-taken c).In-Some)
    c.unlink_free.ensures.areas c.put_halves.ensures.areas

pub returns-in-Some-clause-notes : goal.returns-in-Some-clause-notes
returns-in-Some-clause-notes c =
    notes-then c.args.self.now.layout c.unlink_free.new.self.layout 1 (c.args.order - c.args.wanted)
    (c.args.order - c.args.wanted + 1) c.args.tape.now c.unlink_free.new.tape c.put_halves.new.tape
    c.args.self.now.areas c.unlink_free.new.self.areas c.put_halves.new.self.areas
    c.unlink_free.ensures.layout (omega arith) c.unlink_free.ensures.notes c.put_halves.ensures.notes

pub area_list-requires : goal.area_list-requires
area_list-requires c = order-small c.self.invariant c.self.view_is c.requires.order

pub front-requires : goal.front-requires
front-requires c =
    list-there c.args.class c.self.invariant c.self.view_is c.requires.order c.area_list.ensures

pub put_halves-requires-clause-layout : goal.put_halves-requires-clause-layout
put_halves-requires-clause-layout c =
    rw (c.unlink_free.ensures.layout, ← c.self.view_is) c.self.invariant.layout

pub put_halves-requires-clause-room : goal.put_halves-requires-clause-room
put_halves-requires-clause-room c =
    room_left c.args.self.now.layout 1 (c.args.order - c.args.wanted) c.args.tape.now
    c.unlink_free.new.tape c.args.self.now.areas c.unlink_free.new.self.areas c.unlink_free.ensures.notes
    (omega (arith, c.requires.room))

pub returns-in-Some-clause-layout : goal.returns-in-Some-clause-layout
returns-in-Some-clause-layout c = c.put_halves.ensures.layout ∙ c.unlink_free.ensures.layout
