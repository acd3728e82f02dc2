-- The sums give as much as the shares did.
use Rattle.std.proofs.Common.{length, refl}
use Rattle.hp_schedules.specs.declared.trail.Share.{Share}
use Rattle.hp_schedules.proofs.Trails.{counts_add_up, gathered_gives, keeps_gathered}
use Rattle.hp_schedules.proofs.tally.Tally.gather.Goals as goal

pub invariant_of-self : goal.invariant_of-self
invariant_of-self c = (
  c.self.invariant.0,
  c.self.invariant.1,
  c.self.invariant.2,
  c.gather.ensures.at_ends (length c.self.inside.ends.items) c.self.invariant.3,
  rw (gathered_gives _ _ _ (λ (s : Share). s.count) counts_add_up c.gather.ensures) c.self.invariant.4,
)

pub returns-clause-trail : goal.returns-clause-trail
returns-clause-trail c =
    rw (← c.self.view_is) (keeps_gathered _ _ c.args.start refl c.gather.ensures c.self.invariant.3)
