-- The state's number belongs to the place.
use Rattle.std.proofs.Common.{sym}
use Rattle.hp_explore.specs.LatestOps.{numbering}
use Rattle.hp_explore.proofs.LatestNumbers.{numbers_here}
use Rattle.hp_explore.proofs.visited.Visited.number_before_begin.Goals as goal
use Rattle.hp_explore.proofs.visited.Visited.number_before_begin.Goals.{After-number_state}
use Rattle.hp_states.specs.Stops.{AreStopsAt}

here : (c : After-number_state)
    → AreStopsAt (numbering c.args.path.now.setting) c.args.path.now.setting c.args.path.now.news
    c.number_state.new.self
here c =
    let v = c.args.self.now in
    let p = c.args.path.now in
    let way = c.requires.way c.requires.on in
    c.number_state.ensures.here (numbering p.setting) p.setting p.news
    (sym (numbers_here p.setting p.news v.fixed v.latest c.here.result.now way.2 c.here.ensures way.1))
    c.memory.ensures way.0

pub returns-in_err-number_state-clause-way : goal.returns-in_err-number_state-clause-way
returns-in_err-number_state-clause-way c =
    λ set. let way = c.requires.way set in
    (here (goal.at.returns-in_err-number_state-clause-way c).After-number_state, way.1, way.2)

pub returns-in_ok-number_state-clause-way : goal.returns-in_ok-number_state-clause-way
returns-in_ok-number_state-clause-way c =
    λ set. let way = c.requires.way set in
    (here (goal.at.returns-in_ok-number_state-clause-way c).After-number_state, way.1, way.2)
