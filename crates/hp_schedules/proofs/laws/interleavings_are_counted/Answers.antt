use Rattle.hp_schedules.specs.Schedules.{IsComplete}
use Rattle.hp_schedules.proofs.Uniqueness.{only_count}
use Rattle.hp_schedules.proofs.Coefficients.{only_one}
use Rattle.hp_schedules.proofs.Interleavings.{complete_counted}
use Rattle.hp_schedules.proofs.laws.interleavings_are_counted.Goals as goal

pub returns : goal.returns
returns c =
    λ g m all. let one = complete_counted g all in (
      λ counted. rw (← only_count (IsComplete g) one.0 m one.1 counted) one.2,
      λ is. rw (← only_one _ _ m one.2 is) one.1,
    )
