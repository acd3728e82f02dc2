-- The end that is read is the one at the place.
use Rattle.std.proofs.Common.{refl}
use Rattle.std.proofs.lemmas.Option.{slice_get_read}
use Rattle.hp_schedules.proofs.tally.is_end_at.Goals as goal

pub returns-in-Some : goal.returns-in-Some
returns-in-Some c =
    λ is. (
      c.in-Some.end.now,
      slice_get_read _ _ _ _ refl c.in-Some.ensures.lookup.3.0 c.in-Some.ensures.lookup.1,
      c.is_of.ensures.0 is,
    )
