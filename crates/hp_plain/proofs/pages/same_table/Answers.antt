use Rattle.std.specs.Cmp.Lexicographic.{pointwise_decides}
use Rattle.std.proofs.lemmas.Bool.Decides.{Decides-eqb}
use Rattle.hp_plain.proofs.EqualLists.{lists_told, options_decided}
use Rattle.hp_plain.proofs.pages.same_table.Goals as goal

pub returns : goal.returns
returns c =
    lists_told (pointwise_decides (options_decided Decides-eqb)) c.args.table.now
    c.args.others.now c.eq.result c.eq.ensures
