use Rattle.std.specs.Cmp.Lexicographic.{pointwise_decides}
use Rattle.hp_plain.proofs.EqualLists.{lists_told, numbers_decided, options_decided}
use Rattle.hp_plain.proofs.pages.same_contents.Goals as goal

pub returns : goal.returns
returns c =
    lists_told (pointwise_decides (options_decided numbers_decided)) c.args.contents.now
    c.args.others.now c.eq.result c.eq.ensures
