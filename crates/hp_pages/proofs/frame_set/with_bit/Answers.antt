use Rattle.hp_pages.proofs.FrameSets.{set_bit, clear_bit}
use Rattle.hp_pages.proofs.frame_set.with_bit.Goals as goal

pub returns-then-is_in : goal.returns-then-is_in
returns-then-is_in c = λ i within. set_bit c.args.word c.args.at i c.args.is_in c.requires c.if-is_in.true

pub returns-else-is_in : goal.returns-else-is_in
returns-else-is_in c =
    λ i within. clear_bit c.args.word c.args.at i c.args.is_in c.requires within c.if-is_in.false
