use Rattle.std.proofs.Common.{◌∙◌}
use Rattle.hp_plain.proofs.Values.{memory_is}
use Rattle.hp_plain.proofs.image.Image.copy.Goals as goal

pub returns : goal.returns
returns c =
    rw c.in_ok-layout.ensures (rw (memory_is _ _ _ _ _ _ _ _ c.in_ok-free.ensures c.in_ok-pages.ensures
    (c.in_ok-kernel.ensures.items ∙ c.as_slice.ensures.value) c.in_ok-blocks.ensures) c.self.view_is)
