use Rattle.std.proofs.Common.{◌≡◌, length, arith, subst}
use Rattle.hp_log_pictures.specs.Columns.{Sampled, events_below}
use Rattle.hp_log_pictures.proofs.Sampling.{all_below}
use Rattle.hp_log_pictures.proofs.columns.Columns.event_count.Goals as goal

pub returns-clause-covered : goal.returns-clause-covered
returns-clause-covered c =
    subst (λ (s : Sampled). events_below s (length s.peaks) ≡ c.self.inside.events) c.self.view_is
    (all_below (record {
      width = c.self.inside.width;
      events = c.self.inside.events;
      room = c.self.inside.room;
      count = c.self.inside.count;
      peaks = c.self.inside.peaks.items;
    }) (length c.self.inside.peaks.items) (omega (arith, c.self.invariant.0)))
