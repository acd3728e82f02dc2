use Rattle.std.proofs.Common.{arith}
use Rattle.hp_pages.proofs.FrameSets.{no_bit, first_bit}
use Rattle.hp_pages.proofs.frame_set.lowest_bit.Goals as goal

pub returns-then-rest-eq0 : goal.returns-then-rest-eq0
returns-then-rest-eq0 c = no_bit c.args.word c.args.from c.if-rest-eq0.true

pub returns : goal.returns
returns c = first_bit c.args.word c.args.from (omega arith) (omega arith)
