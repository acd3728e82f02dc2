-- The lists are those of all parts.
use Rattle.std.proofs.Common.{◌<◌, length, map, arith}
use Rattle.hp_explore.specs.Settings.{setting}
use Rattle.hp_parts.specs.AllParts.{AreParts}
use Rattle.hp_parts.proofs.AllParts.{room_for_all}
use Rattle.hp_parts.proofs.Joining.{items}
use Rattle.hp_parts.proofs.jobs.search_parts.Goals as goal
use Rattle.hp_parts.proofs.jobs.search_parts.Goals.{After-sum}

some : (g : _) (c : After-sum g) → 0 < length c.as_slice.result.now
some g c = rw c.as_slice.ensures.value (omega (arith, c.in_ok-lists.ensures.len, c.requires.some))

parts : (g : _) (c : After-sum g) → AreParts (setting c.args.machine.now c.args.scripts.now)
    c.calls_for-calls.result (map items c.as_slice.result.now)
parts g c = rw c.as_slice.ensures.value c.in_ok-lists.ensures.ends

pub returns-in-Ok-clause-ends : goal.returns-in-Ok-clause-ends
returns-in-Ok-clause-ends g c =
    let before = (goal.at.returns-in-Ok-clause-ends g c).After-sum in
    c.in-Ok.ensures.ends (setting c.args.machine.now c.args.scripts.now) c.calls_for-calls.result
    (some g before) (parts g before)

pub returns-in-Ok-clause-ordered : goal.returns-in-Ok-clause-ordered
returns-in-Ok-clause-ordered g c =
    let before = (goal.at.returns-in-Ok-clause-ordered g c).After-sum in
    c.in-Ok.ensures.ordered (setting c.args.machine.now c.args.scripts.now) c.calls_for-calls.result
    (some g before) (parts g before)

pub returns-in-Ok-clause-room : goal.returns-in-Ok-clause-room
returns-in-Ok-clause-room g c =
    room_for_all (setting c.args.machine.now c.args.scripts.now) c.args.parts c.calls_for-calls.result
    c.requires.some c.in_ok-lists.ensures.room
