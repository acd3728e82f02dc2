use Rattle.std.proofs.Common.{arith}
use Rattle.hp_buddy.proofs.Places.{written_removes}
use Rattle.hp_buddy.proofs.rings.Rings.remove.Goals as goal

pub returns-clause-links : goal.returns-clause-links
returns-clause-links c =
    rw c.alone.ensures (written_removes c.args.self.now.nodes.items c.args.before c.args.frame c.args.after
    c.index_mut.result.now c.index_mut-2.result.now
    (omega arith) (omega arith) (omega arith) c.requires.not_before c.requires.not_after
    c.index_mut.ensures.value c.index_mut-2.ensures.value)
