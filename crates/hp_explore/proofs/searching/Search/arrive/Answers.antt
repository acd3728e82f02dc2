-- The place is tried, or left at once.
use Rattle.std.proofs.Common.{arith, refl, subst}
use Rattle.std.proofs.lemmas.Result.{IfOk-weaker}
use Rattle.hp_explore.proofs.SearchBacks.{turned_within}
use Rattle.hp_explore.proofs.SearchTurns.{known_here, moved, visited_here}
use Rattle.hp_explore.proofs.searching.Search.arrive.Goals as goal
use Rattle.hp_schedules.specs.Schedules.{schedule_of}
use Rattle.hp_explore.proofs.Visits.{visited_more}

pub up-requires-clause-leaving : goal.up-requires-clause-leaving
up-requires-clause-leaving g c =
    let here = c.requires.arriving in
    let skipped = rw c.requires.schedule at (c.admits.ensures.skipped c.if-not-admits.true) in
    record {
      placed = here.placed;
      visited = visited_here _ _ _ _ _ here here.visited;
      done = (skipped.0, λ whole. absurd (skipped.1 whole));
    }

pub returns-then-not-admits : goal.returns-then-not-admits
returns-then-not-admits g c =
    IfOk-weaker c.up.result _ _ (λ turn turned. turned_within _ c.args.seed _ _ _ _ _ turn
    (omega arith) (turned 0)) c.up.ensures

pub up-requires-then-branch-clause-leaving : goal.up-requires-then-branch-clause-leaving
up-requires-then-branch-clause-leaving g c =
    let v = c.args.self.now in
    let aim = g.A.Aim.shows c.args.aim.now v.path.setting in
    known_here aim c.args.seed v.path v.visited c.look_up.new.self _
    (g.met.A.Aim.lawful c.args.aim.now v.path.setting) c.is_played.ensures c.requires.arriving
    (subst aim.admits c.requires.schedule
    (c.admits.ensures.admitted c.if-not-admits.false))
    c.in_ok-look_up.ensures.on c.in_ok-look_up.ensures.kept c.in_ok-look_up.ensures.way
    c.in_ok-look_up.ensures.ok c.if-branch.true

pub returns-then-branch : goal.returns-then-branch
returns-then-branch g c =
    IfOk-weaker c.up-then-branch.result _ _ (λ turn turned. turned_within _ c.args.seed _ _ _ _ _ turn
    (omega arith) (turned 0)) c.up-then-branch.ensures

pub returns : goal.returns
returns g c =
    let v = c.args.self.now in
    let here = c.requires.arriving in
    let aim = g.A.Aim.shows c.args.aim.now v.path.setting in
    let admitted = subst aim.admits c.requires.schedule (c.admits.ensures.admitted c.if-not-admits.false) in
    let kept = rw c.if-branch.false at c.in_ok-look_up.ensures.ok in
    record {
      schedule = c.requires.schedule;
      trying = record {
        placed =
            moved aim c.args.seed v.path v.visited _ here.placed c.in_ok-look_up.ensures.kept
            c.in_ok-look_up.ensures.way;
        tried = (admitted, λ cpu within less. absurd (omega (arith, less)));
        visited =
            visited_more v.path.setting aim (schedule_of v.path.news) v.path.news v.visited _
            c.is_played.ensures refl admitted c.in_ok-look_up.ensures.on c.in_ok-look_up.ensures.kept kept
            (visited_here aim c.args.seed v.path v.visited v.visited here here.visited);
      };
      kept = c.in_ok-look_up.ensures.places;
      same = refl;
      fewer = omega arith;
    }
