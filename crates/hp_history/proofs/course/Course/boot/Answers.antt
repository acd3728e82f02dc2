-- The state at boot is well placed.
use Rattle.hp_laws.proofs.Boots.{boot-placed}
use Rattle.hp_history.proofs.course.Course.boot.Goals as goal

pub from_image-requires : goal.from_image-requires
from_image-requires c =
    record {
      placed =
          rw (c.in_ok-base.ensures.layout, c.in_ok-base.ensures.memory)
          (boot-placed c.args.layout.now c.in_ok-base.ensures.limits);
    }

pub returns-clause-start : goal.returns-clause-start
returns-clause-start c =
    rw (c.in_ok-journal.ensures, c.in_ok-base.ensures.layout, c.in_ok-base.ensures.memory)
