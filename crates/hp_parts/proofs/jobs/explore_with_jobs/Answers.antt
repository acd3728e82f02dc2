-- All parts together are all schedules.
use Rattle.std.specs.Prelude.{sum_by}
use Rattle.hp_schedules.specs.declared.tally.Ending.{Ending}
use Rattle.hp_schedules.specs.Schedules.{IsComplete}
use Rattle.hp_explore.specs.Settings.{setting}
use Rattle.hp_schedules.proofs.Uniqueness.{no_more}
use Rattle.hp_parts.proofs.jobs.explore_with_jobs.Goals as goal

pub returns-in-Some-clause-few : goal.returns-in-Some-clause-few
returns-in-Some-clause-few g c =
    λ all more. no_more (IsComplete (setting c.args.machine.now c.args.scripts.now))
    (sum_by (λ (e : Ending). e.count) c.in-Some.ends.items) c.args.limit c.in-Some.ensures.within
    c.in-Some.ensures.ends.total more
