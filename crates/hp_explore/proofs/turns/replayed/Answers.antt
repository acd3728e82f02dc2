-- A call that has no room is one along the schedule that is played.
use Rattle.std.proofs.Common.{◌≡◌, ◌++◌, ◌∷◌, [], Some, ap, refl, ◌∙◌}
use Rattle.std.proofs.lemmas.Result.{err_from_is_err_and}
use Rattle.hp_schedules.specs.Schedules.{schedule_of}
use Rattle.hp_explore.specs.Settings.{setting}
use Rattle.hp_explore.specs.Walks.{IsPlayed}
use Rattle.hp_memory.specs.Steps.{StepsValue}
use Rattle.hp_explore.proofs.Machines.{no_fewer}
use Rattle.hp_explore.proofs.Stepped.{machine_at}
use Rattle.hp_explore.proofs.turns.replayed.Goals as goal
use Rattle.hp_explore.proofs.turns.replayed.Goals.{In-Some, After-as_slice}

-- the schedule that is played
scheduled : (c : After-as_slice)
    → c.as_slice.result.now ≡ schedule_of c.args.news.now ++ c.args.cpu ∷ []
scheduled c =
    rw (
      c.as_slice.ensures.value,
      c.push_reserved.ensures.items,
      c.in_ok-reserve.ensures.items,
      c.in_ok-schedule.ensures,
    )

pub returns-in_err-machine-clause-along : goal.returns-in_err-machine-clause-along
returns-in_err-machine-clause-along c =
    let p =
    err_from_is_err_and c.from_residual-in_err-machine.result c.from_residual-in_err-machine.ensures.1 in
    let same = scheduled (goal.at.returns-in_err-machine-clause-along c).After-as_slice in
    rw (p.1, p.2)
    (λ full. rw same at (c.in_err-machine.ensures.along full))

-- the machine is where the schedule leads to
reached : (c : In-Some)
    → IsPlayed (setting c.args.start.now c.args.scripts.now) c.as_slice.result.now (Some c.in-Some.machine)
reached c = rw c.in-Some.is at c.in_ok-machine.ensures.ok

pub steps_of-requires : goal.steps_of-requires
steps_of-requires c =
    no_fewer (setting c.args.start.now c.args.scripts.now) c.in-Some.machine
    (reached (goal.at.steps_of-requires c).In-Some).0

pub returns-in-Some-clause-ok : goal.returns-in-Some-clause-ok
returns-in-Some-clause-ok c =
    let g = setting c.args.start.now c.args.scripts.now in
    let is = c.in_ok-steps_of-in-Some.ensures.value in
    let here = reached (goal.at.returns-in-Some-clause-ok c).In-Some in (
      rw is (machine_at g c.in-Some.machine _ here.0 c.steps_of.ensures.kept.state refl refl refl),
      ap (λ (p : StepsValue). schedule_of p.records) is
          ∙ (here.1 ∙ scheduled (goal.at.returns-in-Some-clause-ok c).After-as_slice),
    )
