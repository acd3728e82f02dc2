use Rattle.std.proofs.Common.{append_assoc}
use Rattle.hp_text.specs.Layouts.{counts_text}
use Rattle.hp_text.proofs.layouts.write_block_keys.Goals as goal

pub returns : goal.returns
unfolding counts_text
returns c = simp append_assoc c.write.ensures.bytes
