-- The memo goes back with the path.
use Rattle.hp_explore.proofs.walk.take_back.Goals as goal

pub returns-in-Some-clause-back : goal.returns-in-Some-clause-back
returns-in-Some-clause-back c = (c.back.result, c.back.ensures)

pub returns-in-Some-clause-way : goal.returns-in-Some-clause-way
returns-in-Some-clause-way c =
    let back = rw c.in-Some.is at c.back.ensures in
    let now = c.back.new.self in
    λ way. c.go_back.ensures.back now.setting now.news back.0 back.1 (rw back.2 at way)

pub returns-in-None-clause-back : goal.returns-in-None-clause-back
returns-in-None-clause-back c = (c.back.result, c.back.ensures)

pub returns-in-None-clause-way : goal.returns-in-None-clause-way
returns-in-None-clause-way c = let back = rw c.in-None.is at c.back.ensures in λ way. rw back.1 way
