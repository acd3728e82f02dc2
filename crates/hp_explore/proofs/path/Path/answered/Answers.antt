-- The latest call is one that the script asked for.
use Rattle.std.proofs.Common.{◌≡◌, ◌∷◌, ◌++◌, ◌==◌, [], List, length, ap, refl, ◌∙◌}
use Rattle.hp_units.specs.declared.replies.Record.{Record}
use Rattle.hp_schedules.specs.LineAnswers.{IsAnswered, answers_at}
use Rattle.hp_explore.specs.Settings.{setting}
use Rattle.hp_explore.proofs.Answered.{HasLatest, asked_latest, latest_asked, some_if}
use Rattle.hp_explore.proofs.path.Path.answered.Goals as goal
use Rattle.hp_explore.proofs.path.Path.answered.Goals.{After-answered, After-latest}

-- the latest record
last_here : (c : After-latest)
    → HasLatest (setting c.self.inside.machine.now c.self.inside.scripts.now) c.self.inside.here.records
last_here c =
    latest_asked (setting c.self.inside.machine.now c.self.inside.scripts.now) c.self.inside.here.records
    (some_if (length c.self.inside.here.records) c.is_empty.result
    (c.is_empty.ensures ∙ ap (λ (rs : List Record). length rs == 0) c.records-records.ensures)
    c.if-is_empty.false) c.self.invariant.at.played

latest_is : (c : After-latest) → c.latest.result.now ≡ (last_here c).r
latest_is c =
    c.latest.ensures (last_here c).before (last_here c).r (c.records-records.ensures ∙ (last_here c).is)

pub answered-requires-clause-scripts : goal.answered-requires-clause-scripts
answered-requires-clause-scripts c = rw (latest_is c) (last_here c).within

pub answered-requires-clause-cursors : goal.answered-requires-clause-cursors
answered-requires-clause-cursors c =
    rw (latest_is c, c.self.invariant.cursors_at.many) (last_here c).within

-- of the fields
answered_inside : (c : After-answered) (before : List Record) (r : Record)
    → c.self.inside.here.records ≡ before ++ r ∷ []
    → IsAnswered (answers_at (setting c.self.inside.machine.now c.self.inside.scripts.now) r.cpu before)
    c.answered.result
    (answers_at (setting c.self.inside.machine.now c.self.inside.scripts.now) r.cpu
    c.self.inside.here.records)
answered_inside c before r is =
    let g = setting c.self.inside.machine.now c.self.inside.scripts.now in
    let same : c.latest.result.now ≡ r = c.latest.ensures before r (c.records-records.ensures ∙ is) in
    rw is (rw same at (c.answered.ensures g before refl (rw same (asked_latest g before r (rw is at
    c.self.invariant.at.played))) (rw (same, ← is) c.self.invariant.cursors_at)))

pub returns : goal.returns
returns c = rw (← c.self.view_is) (answered_inside c)
