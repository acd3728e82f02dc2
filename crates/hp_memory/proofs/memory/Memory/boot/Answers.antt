use Rattle.hp_laws.proofs.Boots.{boot-placed}
use Rattle.hp_memory.proofs.memory.Memory.boot.Goals as goal

pub from_image-requires : goal.from_image-requires
from_image-requires c =
    record {
      placed =
          rw (c.in_ok-image.ensures.layout, c.in_ok-image.ensures.memory)
          (boot-placed c.args.layout.now c.in_ok-image.ensures.limits);
    }
