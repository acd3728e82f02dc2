-- The call was made, and its turn leads back; or the script asks for nothing.
use Rattle.std.proofs.Common.{◌≡◌, ◌∷◌, ◌++◌, ◌<◌, ◌∙◌, [], Some, ap, arith, length, refl}
use Rattle.std.proofs.lemmas.List.{length_push}
use Rattle.hp_schedules.specs.Cursors.{IsCalledFor}
use Rattle.hp_schedules.specs.Schedules.{record_of_call}
use Rattle.hp_explore.specs.Settings.{setting}
use Rattle.hp_explore.proofs.Paths.{called_there, turned_latest}
use Rattle.hp_schedules.proofs.Placed.{called_within}
use Rattle.hp_explore.proofs.turns.advance.Goals as goal
use Rattle.hp_explore.proofs.turns.advance.Goals.{In-Some, After-latest}

-- what the script asks for
called : (c : In-Some)
    → IsCalledFor (setting c.args.start.now c.args.scripts.now) c.args.cpu c.args.here.now.records
    (Some c.in-Some.request)
called c =
    called_there _ _ _ _ _ c.args.here.now.records _ _ _ c.in-Some.is c.records-news.ensures
    c.cpus-cpus.ensures.is c.layout.ensures c.in_ok-request.ensures c.requires.cursors

-- it has a script
within : (c : In-Some) → c.args.cpu < length c.args.scripts.now
within c =
    called_within (setting c.args.start.now c.args.scripts.now) c.args.cpu c.args.here.now.records
    c.args.scripts.now c.in-Some.request.event refl (called c).0

-- whose record is the latest
whose : (c : After-latest)
    → (c.latest.result.now.cpu ≡ c.args.cpu)
    × (c.make_turn.new.here.records ≡ c.args.here.now.records ++ c.latest.result.now ∷ [])
whose c =
    turned_latest (setting c.args.start.now c.args.scripts.now) c.args.here.now c.make_turn.new.here
    c.args.cpu c.in-Some.request.event c.in_ok-way-in-Some.way c.latest.result.now
    c.in_ok-way-in-Some.ensures.ok
    (λ before r is. c.latest.ensures before r (c.records.ensures ∙ is))

pub make_turn-requires-clause-asked : goal.make_turn-requires-clause-asked
make_turn-requires-clause-asked c = (called (goal.at.make_turn-requires-clause-asked c).In-Some).0

pub latest-requires : goal.latest-requires
latest-requires c =
    omega (
      arith,
      ap length (c.records.ensures ∙ c.in_ok-way-in-Some.ensures.ok.records),
      length_push c.args.here.now.records
          (record_of_call (setting c.args.start.now c.args.scripts.now) c.args.here.now.records c.args.cpu
          c.in-Some.request.event),
    )

pub go_on-from-requires-clause-whose : goal.go_on-from-requires-clause-whose
go_on-from-requires-clause-whose c = (whose (goal.at.go_on-from-requires-clause-whose c).After-latest).0

pub go_on-from-requires-clause-scripts : goal.go_on-from-requires-clause-scripts
go_on-from-requires-clause-scripts c = within (goal.at.go_on-from-requires-clause-scripts c).In-Some

pub go_on-from-requires-clause-cursors : goal.go_on-from-requires-clause-cursors
go_on-from-requires-clause-cursors c =
    omega (
      arith,
      within (goal.at.go_on-from-requires-clause-cursors c).In-Some,
      c.requires.cursors.many,
    )

pub returns-in_ok-way-in-Some-clause-ok : goal.returns-in_ok-way-in-Some-clause-ok
returns-in_ok-way-in-Some-clause-ok c =
    let g = setting c.args.start.now c.args.scripts.now in
    let before = goal.at.returns-in_ok-way-in-Some-clause-ok c in
    let asked = called before.In-Some in (
      c.in-Some.request.event,
      record { way = c.in_ok-way-in-Some.way; from = c.go_on-from.result },
      asked.0,
      c.in_ok-way-in-Some.ensures.ok,
      rw (whose before.After-latest).1 (c.go_on-from.ensures.later g c.args.here.now.records refl
          (rw (c.cpus-cpus.ensures.is, c.layout.ensures)) c.requires.cursors asked),
      omega (arith, within before.In-Some, c.requires.cursors.many, c.go_on-from.ensures.many),
      c.go_on-from.ensures.back,
      rw (c.push_reserved.ensures.items, c.in_ok-reserve.ensures.items),
    )

pub returns-in-None-clause-ok : goal.returns-in-None-clause-ok
returns-in-None-clause-ok c = (
  called_there (setting c.args.start.now c.args.scripts.now) _ _ _ _ c.args.here.now.records _ _ _
      c.in-None.is c.records-news.ensures c.cpus-cpus.ensures.is c.layout.ensures c.in_ok-request.ensures
      c.requires.cursors,
  refl,
  refl,
  c.in_ok-reserve.ensures.items,
)
