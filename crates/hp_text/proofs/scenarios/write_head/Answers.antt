use Rattle.std.proofs.Common.{codes}
use Rattle.hp_text.specs.Layouts.{layout_text}
use Rattle.hp_text.specs.Scenarios.{head_text}
use Rattle.hp_text.proofs.Joined.{three}
use Rattle.hp_text.proofs.scenarios.write_head.Goals as goal

pub returns : goal.returns
unfolding head_text
returns c =
    three (codes "{\"layout\": ") (layout_text c.args.layout.now) (codes ",\n\"calls\": [\n") _ _ _ _
    c.in_ok-push_str.ensures.bytes c.in_ok-write_layout.ensures c.in_ok-push_str-2.ensures.bytes
