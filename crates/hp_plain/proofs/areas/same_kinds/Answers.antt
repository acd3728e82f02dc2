use Rattle.std.proofs.Common.{rules}
use Rattle.hp_plain.proofs.EqualLists.{lists_told}
use Rattle.hp_plain.proofs.areas.same_kinds.Goals as goal

pub returns : goal.returns
returns c =
    lists_told (λ x y. search rules) c.args.kinds.now c.args.others.now c.eq.result c.eq.ensures
