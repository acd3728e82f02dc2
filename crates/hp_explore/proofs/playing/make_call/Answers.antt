-- The machine after the call is one call further.
use Rattle.std.proofs.Common.{◌≡◌, ◌∷◌, ◌++◌, ◌<◌, [], ℕ, Err, Some, ap, arith, length, refl, subst, sym, ◌∙◌}
use Rattle.hp_units.specs.declared.replies.CallFault.{CallFault}
use Rattle.hp_units.specs.declared.replies.CallFault.TheVariants.{HistoryFull}
use Rattle.hp_schedules.specs.Cursors.{IsCalledFor}
use Rattle.hp_explore.specs.Settings.{setting}
use Rattle.hp_explore.specs.Walks.{news_in}
use Rattle.hp_explore.proofs.Paths.{called_there}
use Rattle.hp_explore.proofs.Machines.{call_cause, call_full, call_latest, fills_here, further, had_room, no_fewer}
use Rattle.hp_schedules.proofs.Placed.{called_within}
use Rattle.hp_explore.proofs.playing.make_call.Goals as goal
use Rattle.hp_explore.proofs.playing.make_call.Goals.{After-latest, In-Some}

-- what the script asks for
called : (c : In-Some)
    → IsCalledFor (setting c.args.start.now c.args.scripts.now) c.args.cpu
    (news_in (setting c.args.start.now c.args.scripts.now) c.args.played.now) (Some c.in-Some.request)
called c =
    rw (← c.cpu.view_is) (called_there (setting c.args.start.now c.args.scripts.now) _ _ _ _
    (news_in (setting c.args.start.now c.args.scripts.now) c.args.played.now) _ _ _ c.in-Some.is
    c.news_since-news.ensures c.cpus-cpus.ensures.is c.layout.ensures c.in_ok-request.ensures
    c.requires.cursors)

-- whose record is the latest
whose : (c : After-latest)
    → (c.latest.result.now.cpu ≡ c.args.cpu)
    × (news_in (setting c.args.start.now c.args.scripts.now) c.answer.new.self
    ≡ news_in (setting c.args.start.now c.args.scripts.now) c.args.played.now ++ c.latest.result.now ∷ [])
whose c =
    call_latest (setting c.args.start.now c.args.scripts.now) c.args.played.now c.answer.new.self c.args.cpu
    c.in-Some.request.event _ c.latest.result.now c.requires.reached c.in-Ok.ensures.ok
    (λ before r is. c.latest.ensures before r (c.history.ensures.records ∙ is))

-- it has a script
within : (c : In-Some) → c.args.cpu < length c.args.scripts.now
within c =
    called_within (setting c.args.start.now c.args.scripts.now) c.args.cpu
    (news_in (setting c.args.start.now c.args.scripts.now) c.args.played.now) c.args.scripts.now
    c.in-Some.request.event refl (called c).0

pub news_since-news-requires : goal.news_since-news-requires
news_since-news-requires c =
    no_fewer (setting c.args.start.now c.args.scripts.now) c.args.played.now c.requires.reached

pub go_on-requires-clause-whose : goal.go_on-requires-clause-whose
go_on-requires-clause-whose c =
    (whose (goal.at.go_on-requires-clause-whose c).After-latest).0 ∙ sym c.cpu-in-Some.view_is

pub go_on-requires-clause-scripts : goal.go_on-requires-clause-scripts
go_on-requires-clause-scripts c =
    rw c.cpu-in-Some.view_is (within (goal.at.go_on-requires-clause-scripts c).In-Some)

pub go_on-requires-clause-cursors : goal.go_on-requires-clause-cursors
go_on-requires-clause-cursors c =
    subst (λ (k : ℕ). k < length c.args.positions.now.cursors.items) (sym c.cpu-in-Some.view_is)
    (omega (arith, within (goal.at.go_on-requires-clause-cursors c).In-Some, c.requires.cursors.many))

pub returns-in-Ok-clause-cursors : goal.returns-in-Ok-clause-cursors
returns-in-Ok-clause-cursors c =
    let g = setting c.args.start.now c.args.scripts.now in
    rw ((whose (goal.at.returns-in-Ok-clause-cursors c).After-latest).1) (c.go_on.ensures.later g (news_in g
    c.args.played.now) refl (rw (c.cpus-cpus.ensures.is, c.layout.ensures)) c.requires.cursors
    (rw c.cpu-in-Some.view_is (called (goal.at.returns-in-Ok-clause-cursors c).In-Some)))

pub returns-in-Ok-clause-ok : goal.returns-in-Ok-clause-ok
returns-in-Ok-clause-ok c =
    further (setting c.args.start.now c.args.scripts.now) c.args.played.now c.answer.new.self c.args.cpu
    c.in-Some.request.event _ c.requires.reached (called (goal.at.returns-in-Ok-clause-ok c).In-Some).0
    (had_room c.args.played.now c.answer.result HistoryFull c.in-Ok._answered c.in-Ok.is
    c.answer.ensures.full.1)
    c.in-Ok.ensures.ok

pub returns-in-Some-clause-err : goal.returns-in-Some-clause-err
returns-in-Some-clause-err c =
    let g = setting c.args.start.now c.args.scripts.now in
    rw c.from.ensures (call_cause g c.args.played.now c.args.cpu c.in-Err.fault
    (λ full. fills_here g c.args.played.now c.args.cpu c.in-Some.request.event c.requires.reached
    (called (goal.at.returns-in-Some-clause-err c).In-Some).0
    (c.answer.ensures.full.0 (c.in-Err.is ∙ ap (λ (f : CallFault). Err f) full))))

pub returns-in-Some-clause-full : goal.returns-in-Some-clause-full
returns-in-Some-clause-full c =
    let g = setting c.args.start.now c.args.scripts.now in
    λ full. fills_here g c.args.played.now c.args.cpu c.in-Some.request.event c.requires.reached
    (called (goal.at.returns-in-Some-clause-full c).In-Some).0
    (c.answer.ensures.full.0 (c.in-Err.is ∙ ap (λ (f : CallFault). Err f)
    (call_full c.in-Err.fault (sym c.from.ensures ∙ full))))

pub returns-clause-ok : goal.returns-clause-ok
returns-clause-ok c =
    let g = setting c.args.start.now c.args.scripts.now in (
      rw (← c.cpu.view_is) (called_there g _ _ _ _ (news_in g c.args.played.now) _ _ _ c.in-None.is
          c.news_since-news.ensures c.cpus-cpus.ensures.is c.layout.ensures c.in_ok-request.ensures
          c.requires.cursors),
      refl,
    )
