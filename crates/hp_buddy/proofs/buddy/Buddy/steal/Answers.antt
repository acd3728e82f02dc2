-- The greatest order that has a block lies in the layout, and its front block is stolen.
use Rattle.std.proofs.Common.{◌+◌, ◌-◌, arith, ap, ◌∙◌}
use Rattle.hp_units.specs.declared.rows.Mobility.{Mobility}
use Rattle.hp_units.specs.declared.rows.Zone.TheVariants.{Normal as NormalZone}
use Rattle.hp_units.specs.Memory.{usable_class}
use Rattle.hp_units.specs.FreeAreas.{steal_block, steal_front}
use Rattle.hp_units.proofs.Places.{IsOrderAmong}
use Rattle.hp_buddy.proofs.Splits.{steal_block-takes}
use Rattle.hp_buddy.proofs.Calls.{IsOutcome, outcome, as_taken, found_greatest, steal_block-found, steal_block-none}
use Rattle.hp_buddy.proofs.buddy.Buddy.steal.Goals as goal
use Rattle.hp_buddy.proofs.buddy.Buddy.steal.Goals.{In-Some, After-steal_front}

among : (c : In-Some)
    → IsOrderAmong c.args.order (c.args.self.now.layout.order + 1 - c.args.order) c.in-Some.found
among c =
    found_greatest c.args.self.now.areas c.usable-from.result c.args.order
    (c.args.self.now.layout.order + 1 - c.args.order) c.in-Some.found c.in-Some.ensures

pub steal_front-requires-clause-order : goal.steal_front-requires-clause-order
steal_front-requires-clause-order c =
    let a = among (goal.at.steal_front-requires-clause-order c).In-Some in
    omega (arith, a.low, a.high)

pub steal_front-requires-clause-wanted : goal.steal_front-requires-clause-wanted
steal_front-requires-clause-wanted c = (among (goal.at.steal_front-requires-clause-wanted c).In-Some).low

pub steal_front-requires-clause-room : goal.steal_front-requires-clause-room
steal_front-requires-clause-room c =
    let a = among (goal.at.steal_front-requires-clause-room c).In-Some in
    omega (arith, a.low, a.high, c.requires.room)

pub returns-in-Some-clause-stolen : goal.returns-in-Some-clause-stolen
returns-in-Some-clause-stolen c =
    let from = c.usable-from.ensures ∙ ap (λ (m : Mobility). usable_class NormalZone m) c.other.ensures in
    as_taken c.steal_front.result c.steal_front.new.self.areas
    (steal_block c.args.self.now.layout c.args.self.now.areas c.args.wanted c.args.order)
    (steal_front c.args.self.now.layout c.args.self.now.areas c.args.wanted c.in-Some.found c.args.order)
    (steal_block-found c.args.self.now.layout c.args.self.now.areas c.args.wanted c.usable-from.result
    c.args.order c.in-Some.found from c.in-Some.ensures) c.steal_front.ensures.taken

is_outcome : (c : After-steal_front)
    → IsOutcome c.args.self.now c.steal_front.new.self c.args.order c.steal_front.result
is_outcome c =
    let from = c.usable-from.ensures ∙ ap (λ (m : Mobility). usable_class NormalZone m) c.other.ensures in
    outcome c.args.self.now c.steal_front.new.self c.args.order
    (steal_block c.args.self.now.layout c.args.self.now.areas c.args.wanted c.args.order)
    c.steal_front.result c.args.tape.now c.steal_front.new.tape
    c.requires.apart c.steal_front.ensures.layout (steal_block-takes c.args.self.now.layout
    c.args.self.now.areas c.args.wanted c.args.order c.requires.apart)
    (as_taken c.steal_front.result c.steal_front.new.self.areas
    (steal_block c.args.self.now.layout c.args.self.now.areas c.args.wanted c.args.order)
    (steal_front c.args.self.now.layout c.args.self.now.areas c.args.wanted c.in-Some.found c.args.order)
    (steal_block-found c.args.self.now.layout c.args.self.now.areas c.args.wanted c.usable-from.result
    c.args.order c.in-Some.found from c.in-Some.ensures) c.steal_front.ensures.taken)
    c.steal_front.ensures.none

pub returns-in-Some-clause-apart : goal.returns-in-Some-clause-apart
returns-in-Some-clause-apart c = (is_outcome (goal.at.returns-in-Some-clause-apart c).After-steal_front).apart

pub returns-in-Some-clause-block : goal.returns-in-Some-clause-block
returns-in-Some-clause-block c = (is_outcome (goal.at.returns-in-Some-clause-block c).After-steal_front).block

pub returns-in-Some-clause-places : goal.returns-in-Some-clause-places
returns-in-Some-clause-places c =
    (is_outcome (goal.at.returns-in-Some-clause-places c).After-steal_front).places

pub returns-in-None-clause-stolen : goal.returns-in-None-clause-stolen
returns-in-None-clause-stolen c =
    let from = c.usable-from.ensures ∙ ap (λ (m : Mobility). usable_class NormalZone m) c.other.ensures in
    steal_block-none c.args.self.now.layout c.args.self.now.areas c.args.wanted c.usable-from.result
    c.args.order from c.in-None.ensures
