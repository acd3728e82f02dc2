-- The buddies below the order that is joined up to are free, and the block joined is in no free
-- block when they have left.
use Rattle.std.proofs.Common.{◌≡◌, ℕ, ◌+◌, ◌-◌, arith, subst, sym}
use Rattle.std.proofs.lemmas.Nat.{pow_pos}
use Rattle.hp_units.specs.Numbers.{ancestor}
use Rattle.hp_units.specs.FreeAreas.{give_block}
use Rattle.hp_units.specs.Placement.{free_places}
use Rattle.hp_units.proofs.Joins.{JoinsTo}
use Rattle.hp_buddy.proofs.Splits.{IsLeft}
use Rattle.hp_buddy.proofs.Gives.{Gives, give_block-gives}
use Rattle.hp_buddy.proofs.Calls.{joins_to, joined_left, block_given, notes-then, room_left}
use Rattle.hp_buddy.proofs.buddy.Buddy.give.Goals as goal
use Rattle.hp_buddy.proofs.buddy.Buddy.give.Goals.{After-join_order-joined, After-unlink_buddies, After-push_front}

joins : (c : After-join_order-joined)
    → JoinsTo c.args.self.now.areas c.class_of-class.result c.args.frame c.args.order
    (c.args.self.now.layout.order - c.args.order) c.join_order-joined.result
joins c =
    joins_to c.args.self.now.layout c.args.self.now.areas c.class_of-class.result c.args.frame c.args.order
    c.join_order-joined.result c.join_order-joined.ensures.joined

pub unlink_buddies-requires-clause-first : goal.unlink_buddies-requires-clause-first
unlink_buddies-requires-clause-first c =
    (joins (goal.at.unlink_buddies-requires-clause-first c).After-join_order-joined).low

pub unlink_buddies-requires-clause-last : goal.unlink_buddies-requires-clause-last
unlink_buddies-requires-clause-last c =
    let j = joins (goal.at.unlink_buddies-requires-clause-last c).After-join_order-joined in
    omega (arith, j.high, c.requires.block.in_order)

pub unlink_buddies-requires-clause-free : goal.unlink_buddies-requires-clause-free
unlink_buddies-requires-clause-free c =
    (joins (goal.at.unlink_buddies-requires-clause-free c).After-join_order-joined).buddies

pub unlink_buddies-requires-clause-room : goal.unlink_buddies-requires-clause-room
unlink_buddies-requires-clause-room c =
    let j = joins (goal.at.unlink_buddies-requires-clause-room c).After-join_order-joined in
    omega (arith, j.high, c.requires.block.in_order, c.requires.room)

pub ancestor-requires : goal.ancestor-requires
ancestor-requires c =
    let j = joins (goal.at.ancestor-requires c).After-join_order-joined in
    omega (arith, j.high, c.requires.block.in_order, c.join_order-joined.ensures.layout.order)

left : (c : After-unlink_buddies)
    → IsLeft c.args.self.now.layout c.unlink_buddies.new.self.areas c.join_order-joined.result
    (ancestor c.args.frame c.join_order-joined.result)
left c =
    joined_left c.args.self.now.layout c.args.self.now.areas c.unlink_buddies.new.self.areas
    c.class_of-class.result c.args.frame c.args.order c.join_order-joined.result c.requires.block
    c.requires.apart
    c.join_order-joined.ensures.joined c.unlink_buddies.ensures.areas

pub push_front-requires-clause-order : goal.push_front-requires-clause-order
push_front-requires-clause-order c =
    let j = left (goal.at.push_front-requires-clause-order c).After-unlink_buddies in
    rw c.unlink_buddies.ensures.layout j.rest.in_order

pub push_front-requires-clause-frame : goal.push_front-requires-clause-frame
push_front-requires-clause-frame c =
    let j = left (goal.at.push_front-requires-clause-frame c).After-unlink_buddies in
    let some = pow_pos c.join_order-joined.result in
    rw c.unlink_buddies.ensures.layout (omega (arith, j.rest.within, c.ancestor.ensures))

pub push_front-requires-clause-unfree : goal.push_front-requires-clause-unfree
push_front-requires-clause-unfree c =
    let j = left (goal.at.push_front-requires-clause-unfree c).After-unlink_buddies in
    let some = pow_pos c.join_order-joined.result in
    subst (λ (n : ℕ). free_places c.unlink_buddies.new.self.areas n ≡ 0) (sym c.ancestor.ensures)
    (j.rest.unfree (ancestor c.args.frame c.join_order-joined.result) (omega arith) (omega arith))

pub push_front-requires-clause-room : goal.push_front-requires-clause-room
push_front-requires-clause-room c =
    let j = left (goal.at.push_front-requires-clause-room c).After-unlink_buddies in
    room_left c.args.self.now.layout (c.join_order-joined.result - c.args.order) 1 c.args.tape.now
    c.unlink_buddies.new.tape c.args.self.now.areas c.unlink_buddies.new.self.areas
    c.unlink_buddies.ensures.notes
    (omega (arith, j.rest.in_order, c.requires.room))

is : (c : After-push_front)
    → c.push_front.new.self.areas
    ≡ give_block c.args.self.now.layout c.args.self.now.areas c.args.zone c.args.frame c.args.order
is c =
    block_given c.args.self.now.layout c.args.self.now.areas c.unlink_buddies.new.self.areas
    c.push_front.new.self.areas c.args.zone c.class_of-class.result c.args.frame c.args.order
    c.join_order-joined.result c.ancestor.result
    c.class_of-class.ensures c.join_order-joined.ensures.joined c.unlink_buddies.ensures.areas
    c.ancestor.ensures c.push_front.ensures.areas

pub returns-clause-given : goal.returns-clause-given
returns-clause-given c = is (goal.at.returns-clause-given c).After-push_front

pub returns-clause-notes : goal.returns-clause-notes
returns-clause-notes c =
    let j = left (goal.at.returns-clause-notes c).After-unlink_buddies in
    notes-then c.args.self.now.layout c.unlink_buddies.new.self.layout
    (c.join_order-joined.result - c.args.order) 1 (c.args.self.now.layout.order + 1) c.args.tape.now
    c.unlink_buddies.new.tape c.push_front.new.tape
    c.args.self.now.areas c.unlink_buddies.new.self.areas c.push_front.new.self.areas
    c.unlink_buddies.ensures.layout (omega (arith, j.rest.in_order)) c.unlink_buddies.ensures.notes
    c.push_front.ensures.notes

gives : (c : After-push_front)
    → Gives c.args.self.now.layout c.args.self.now.areas c.args.order c.args.frame c.push_front.new.self.areas
gives c =
    rw (is c) (give_block-gives c.args.self.now.layout c.args.self.now.areas c.args.zone c.args.frame
    c.args.order c.requires.block c.requires.apart)

pub returns-clause-apart : goal.returns-clause-apart
returns-clause-apart c =
    rw (c.push_front.ensures.layout, c.unlink_buddies.ensures.layout)
    (gives (goal.at.returns-clause-apart c).After-push_front).apart

pub returns-clause-places : goal.returns-clause-places
returns-clause-places c = (gives (goal.at.returns-clause-places c).After-push_front).places
