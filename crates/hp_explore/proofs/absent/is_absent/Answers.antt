-- A thread came to the end of its walk, so no schedule ends as wanted.
use Rattle.std.proofs.Common.{refl}
use Rattle.hp_explore.proofs.absent.is_absent.Goals as goal

pub returns : goal.returns
returns g c =
    λ told.
    let done = c.is_over_in_one.ensures told in (
      λ s reaches. done.0 s (reaches, tt) (s, refl),
      λ fills. done.1 refl fills.0 fills.1 (fills.0, refl),
    )
