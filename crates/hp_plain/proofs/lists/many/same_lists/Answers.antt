use Rattle.hp_plain.proofs.EqualLists.{lists_told, numbers_decided}
use Rattle.hp_plain.proofs.lists.many.same_lists.Goals as goal

pub returns : goal.returns
returns c =
    lists_told numbers_decided c.args.lists.now c.args.others.now c.eq.result c.eq.ensures
