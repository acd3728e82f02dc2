use Rattle.std.proofs.Common.{append_assoc}
use Rattle.hp_text.specs.Layouts.{frames_text}
use Rattle.hp_text.proofs.layouts.write_frame_keys.Goals as goal

pub returns : goal.returns
unfolding frames_text
returns c = simp append_assoc c.write.ensures.bytes
