use Rattle.std.proofs.Common.{◌≡◌, length, arith}
use Rattle.hp_parts.proofs.Ordered.{all_placed}
use Rattle.hp_parts.proofs.ordering.check_numbers.Goals as goal

pub returns-clause-ok : goal.returns-clause-ok
returns-clause-ok c =
    let all : c.loop-index.index ≡ length c.args.parts.now =
    omega (arith, c.loop-index.auto.index-end, c.loop-index-test.false) in
    all_placed c.args.of c.args.parts.now c.requires.within
    (rw all at c.loop-index.invariant.placed) (omega arith)
