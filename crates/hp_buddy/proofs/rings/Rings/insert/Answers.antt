use Rattle.std.proofs.Common.{arith}
use Rattle.hp_buddy.proofs.Places.{written_inserts}
use Rattle.hp_buddy.proofs.rings.Rings.insert.Goals as goal

pub returns-clause-links : goal.returns-clause-links
returns-clause-links c =
    written_inserts c.args.self.now.nodes.items c.args.before c.args.frame c.args.after c.args.list
    c.code_of.result c.index_mut.result.now c.index_mut-2.result.now
    (omega arith) (omega arith) (omega arith) c.requires.not_before c.requires.not_after
    c.index_mut.ensures.value c.index_mut-2.ensures.value c.code_of.ensures
