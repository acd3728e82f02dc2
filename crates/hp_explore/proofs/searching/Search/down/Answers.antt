-- The call is passed over, or leads to a place.
use Rattle.std.proofs.Common.{◌≡◌, ◌∷◌, ◌++◌, [], ◌+◌, ◌<◌, length, ap, arith, refl, subst, sym, ◌∙◌}
use Rattle.std.proofs.lemmas.Result.{err_from_is_err_and}
use Rattle.hp_schedules.specs.Schedules.{Setting, schedule_of}
use Rattle.hp_explore.specs.Paths.{PathValue}
use Rattle.hp_explore.specs.Searches.{HasTurned, IsArriving, number_at, turns_at}
use Rattle.hp_explore.proofs.CallsDone.{call_over, call_skipped}
use Rattle.hp_explore.proofs.FirstSought.{turn_cause}
use Rattle.hp_explore.proofs.SearchBacks.{turned_within}
use Rattle.hp_explore.proofs.SearchTurns.{comes, fewer_down, passed, passed_on, tried_here, went}
use Rattle.hp_explore.proofs.searching.Search.down.Goals as goal
use Rattle.hp_explore.proofs.searching.Search.down.Goals.{After-cpu_at-cpu}

-- the processor that is tried next
tried : (g : _) (c : After-cpu_at-cpu g)
    → (c.cpu_at-cpu.result < length c.args.self.now.path.setting.scripts)
    × (number_at (length c.args.self.now.path.setting.scripts) c.args.seed
    (length (schedule_of c.args.self.now.path.news)) c.cpu_at-cpu.result ≡ c.args.self.now.next)
tried g c =
    let v = c.args.self.now in
    tried_here v.path c.args.seed c.args.processors v.schedule c.len.result v.next c.cpu_at-cpu.result
    c.requires.processors c.requires.schedule c.len.ensures c.requires.some c.cpu_at-cpu.ensures

pub returns-then-not-may_try-clause-ok : goal.returns-then-not-may_try-clause-ok
returns-then-not-may_try-clause-ok g c =
    let v = c.args.self.now in
    let aim = g.A.Aim.shows c.args.aim.now v.path.setting in
    let cpu = c.cpu_at-cpu.result in
    let here = tried g (goal.at.returns-then-not-may_try-clause-ok g c).After-cpu_at-cpu in
    passed_on aim c.args.seed (g.T.Places.keeps c.args.places.now c.args.aim.now) v _ refl
    c.requires.schedule refl refl (omega (arith, c.requires.some, c.requires.processors))
    (passed aim c.args.seed v.path v.next cpu v.visited here c.requires.trying
    (call_skipped v.path.setting aim (schedule_of v.path.news ++ cpu ∷ [])
    (rw c.requires.schedule at (c.may_try.ensures.skipped c.if-not-may_try.true))))
    c.requires.kept

pub returns-in_err-forward-clause-err : goal.returns-in_err-forward-clause-err
returns-in_err-forward-clause-err g c =
    let v = c.args.self.now in
    let aim = g.A.Aim.shows c.args.aim.now v.path.setting in
    let cpu = c.cpu_at-cpu.result in
    let here = tried g (goal.at.returns-in_err-forward-clause-err g c).After-cpu_at-cpu in
    let p = err_from_is_err_and c.from_residual.result c.from_residual.ensures.1 in
    rw (p.1, p.2) (λ first.
    turn_cause aim v.path v.next cpu v.visited c.in_err-forward.field-0.0
    (g.met.A.Aim.lawful c.args.aim.now v.path.setting) c.is_played.ensures (rw first at here)
    (rw first at c.requires.trying)
    (rw c.requires.schedule at (c.may_try.ensures.tried c.if-not-may_try.false))
    c.in_err-forward.ensures.cause)

pub returns-then-not-branch-clause-ok : goal.returns-then-not-branch-clause-ok
returns-then-not-branch-clause-ok g c =
    let v = c.args.self.now in
    let aim = g.A.Aim.shows c.args.aim.now v.path.setting in
    let cpu = c.cpu_at-cpu.result in
    let here = tried g (goal.at.returns-then-not-branch-clause-ok g c).After-cpu_at-cpu in
    let forth = rw c.if-not-branch.true at c.in_ok-forward.ensures.ok in
    passed_on aim c.args.seed (g.T.Places.keeps c.args.places.now c.args.aim.now) v _ forth.1
    c.requires.schedule refl refl (omega (arith, c.requires.some, c.requires.processors))
    (passed aim c.args.seed v.path v.next cpu v.visited here c.requires.trying
    (call_over v.path.setting aim (schedule_of v.path.news) v.path.news cpu
    (g.met.A.Aim.lawful c.args.aim.now v.path.setting) c.is_played.ensures forth.0))
    c.requires.kept

pub arrive-requires-clause-schedule : goal.arrive-requires-clause-schedule
arrive-requires-clause-schedule g c =
    let v = c.args.self.now in
    let forth = rw c.if-not-branch.false at c.in_ok-forward.ensures.ok in
    rw (c.in_ok-push.ensures.ok, c.requires.schedule)
    (sym (went v.path c.forward.new.self c.cpu_at-cpu.result forth))

pub arrive-requires-clause-arriving : goal.arrive-requires-clause-arriving
arrive-requires-clause-arriving g c =
    let v = c.args.self.now in
    let q = c.forward.new.self in
    let aim = g.A.Aim.shows c.args.aim.now v.path.setting in
    let here = tried g (goal.at.arrive-requires-clause-arriving g c).After-cpu_at-cpu in
    let forth = rw c.if-not-branch.false at c.in_ok-forward.ensures.ok in
    subst (λ (h : Setting). IsArriving (g.A.Aim.shows c.args.aim.now h) c.args.seed q c.go_on.new.self)
    (sym (ap (λ (p : PathValue). p.setting) forth.3))
    (comes v.path q aim c.args.seed v.next c.cpu_at-cpu.result c.latest.result.now
    c.positions.result.now.cursors.items v.visited c.go_on.new.self c.is_played.ensures here c.requires.trying
    forth (rw c.requires.schedule at (c.may_try.ensures.tried c.if-not-may_try.false))
    (λ before r is. c.latest.ensures before r (c.records.ensures ∙ is)) c.positions.ensures
    c.in_ok-go_on.ensures.same.0 c.in_ok-go_on.ensures.same.1 c.in_ok-go_on.ensures.kept
    c.in_ok-go_on.ensures.ok)

pub returns-clause-ok : goal.returns-clause-ok
returns-clause-ok g c =
    let v = c.args.self.now in
    let q = c.forward.new.self in
    let keeps = g.T.Places.keeps c.arrive.new.places c.args.aim.now in
    let here = tried g (goal.at.returns-clause-ok g c).After-cpu_at-cpu in
    let forth = rw c.if-not-branch.false at c.in_ok-forward.ensures.ok in
    let less : v.next < length v.path.setting.scripts =
    omega (arith, c.requires.some, c.requires.processors) in
    let fewer = fewer_down v.path q c.args.seed v.next c.cpu_at-cpu.result less here.1 forth in
    turned_within (g.A.Aim.shows c.args.aim.now v.path.setting) c.args.seed keeps v.path.setting
    (turns_at c.args.seed q 0 + 1) (turns_at c.args.seed v.path v.next) c.arrive.new.self c.in_ok-turn.turn
    (omega (arith, fewer))
    (subst (λ (h : Setting). HasTurned (g.A.Aim.shows c.args.aim.now h) c.args.seed keeps h
    (turns_at c.args.seed q 0 + 1) c.arrive.new.self c.in_ok-turn.turn)
    (ap (λ (p : PathValue). p.setting) forth.3) c.in_ok-turn.ensures)
