use Rattle.std.proofs.lemmas.Bool.Decides.{Decides-eqb}
use Rattle.hp_plain.proofs.EqualLists.{lists_told, options_decided}
use Rattle.hp_plain.proofs.image.same_orders.Goals as goal

pub returns : goal.returns
returns c =
    lists_told (options_decided Decides-eqb) c.args.kernel.now c.args.others.now c.eq.result c.eq.ensures
