-- The least order that has a block lies in the layout, and its front block is taken.
use Rattle.std.proofs.Common.{◌+◌, ◌-◌, arith}
use Rattle.hp_units.specs.FreeAreas.{take_block, take_front}
use Rattle.hp_units.proofs.Places.{IsOrderAmong}
use Rattle.hp_buddy.proofs.Splits.{take_block-takes}
use Rattle.hp_buddy.proofs.Calls.{IsOutcome, outcome, as_taken, found_least, take_block-found, take_block-none}
use Rattle.hp_buddy.proofs.buddy.Buddy.take.Goals as goal
use Rattle.hp_buddy.proofs.buddy.Buddy.take.Goals.{In-Some, After-take_front}

among : (c : In-Some)
    → IsOrderAmong c.args.order (c.args.self.now.layout.order + 1 - c.args.order) c.in-Some.found
among c =
    found_least c.args.self.now.areas c.args.class c.args.order
    (c.args.self.now.layout.order + 1 - c.args.order) c.in-Some.found c.in-Some.ensures

pub take_front-requires-clause-order : goal.take_front-requires-clause-order
take_front-requires-clause-order c =
    let a = among (goal.at.take_front-requires-clause-order c).In-Some in
    omega (arith, a.low, a.high)

pub take_front-requires-clause-wanted : goal.take_front-requires-clause-wanted
take_front-requires-clause-wanted c = (among (goal.at.take_front-requires-clause-wanted c).In-Some).low

pub take_front-requires-clause-room : goal.take_front-requires-clause-room
take_front-requires-clause-room c =
    let a = among (goal.at.take_front-requires-clause-room c).In-Some in
    omega (arith, a.low, a.high, c.requires.room)

pub returns-in-Some-clause-taken : goal.returns-in-Some-clause-taken
returns-in-Some-clause-taken c =
    as_taken c.take_front.result c.take_front.new.self.areas
    (take_block c.args.self.now.layout c.args.self.now.areas c.args.class c.args.order)
    (take_front c.args.self.now.areas c.args.class c.args.class c.in-Some.found c.args.order)
    (take_block-found c.args.self.now.layout c.args.self.now.areas c.args.class c.args.order c.in-Some.found
    c.in-Some.ensures) c.take_front.ensures.taken

is_outcome : (c : After-take_front)
    → IsOutcome c.args.self.now c.take_front.new.self c.args.order c.take_front.result
is_outcome c =
    outcome c.args.self.now c.take_front.new.self c.args.order
    (take_block c.args.self.now.layout c.args.self.now.areas c.args.class c.args.order) c.take_front.result
    c.args.tape.now c.take_front.new.tape
    c.requires.apart c.take_front.ensures.layout (take_block-takes c.args.self.now.layout
    c.args.self.now.areas c.args.class c.args.order c.requires.apart)
    (as_taken c.take_front.result c.take_front.new.self.areas
    (take_block c.args.self.now.layout c.args.self.now.areas c.args.class c.args.order)
    (take_front c.args.self.now.areas c.args.class c.args.class c.in-Some.found c.args.order)
    (take_block-found c.args.self.now.layout c.args.self.now.areas c.args.class c.args.order c.in-Some.found
    c.in-Some.ensures) c.take_front.ensures.taken)
    c.take_front.ensures.none

pub returns-in-Some-clause-apart : goal.returns-in-Some-clause-apart
returns-in-Some-clause-apart c = (is_outcome (goal.at.returns-in-Some-clause-apart c).After-take_front).apart

pub returns-in-Some-clause-block : goal.returns-in-Some-clause-block
returns-in-Some-clause-block c = (is_outcome (goal.at.returns-in-Some-clause-block c).After-take_front).block

pub returns-in-Some-clause-places : goal.returns-in-Some-clause-places
returns-in-Some-clause-places c =
    (is_outcome (goal.at.returns-in-Some-clause-places c).After-take_front).places

pub returns-in-None-clause-taken : goal.returns-in-None-clause-taken
returns-in-None-clause-taken c =
    take_block-none c.args.self.now.layout c.args.self.now.areas c.args.class c.args.order c.in-None.ensures
