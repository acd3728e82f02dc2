-- The place is done, or its key is kept.
use Rattle.std.proofs.Common.{None, ap, length}
use Rattle.hp_explore.specs.Visited.{IsPlaceKey, no_stops}
use Rattle.hp_explore.specs.Withins.{aim_within}
use Rattle.hp_explore.proofs.Visits.{asked}
use Rattle.hp_explore.proofs.PathKeysKept.{key_here}
use Rattle.hp_explore.proofs.places.SharedPlacesPlacesWithin.look_up.Goals as goal

pub returns-clause-kept : goal.returns-clause-kept
returns-clause-kept g c =
    let kept = c.requires.kept in
    let p = c.args.path.now in (
      kept.0,
      kept.1,
      kept.2,
      key_here g.Q.Question.setting (aim_within g.Q.Question.setting g.Q.Question.wanted None) p.news _
          c.args.key.now c.args.self.now.keys c.keep.new.self (ap length c.records.ensures)
          c.in_ok-keep.ensures.here c.in_ok-keep.ensures.others
          (asked (λ x a. IsPlaceKey x a no_stops p.news c.args.key.now) _ _ _ _ _ kept.0 kept.1 kept.2
          (c.requires.common c.if-not-is_common.false)) kept.3,
    )
