use Rattle.std.proofs.Common.{append_assoc}
use Rattle.hp_text.specs.Layouts.{pages_text}
use Rattle.hp_text.proofs.layouts.write_page_keys.Goals as goal

pub returns : goal.returns
unfolding pages_text
returns c = simp append_assoc c.write.ensures.bytes
