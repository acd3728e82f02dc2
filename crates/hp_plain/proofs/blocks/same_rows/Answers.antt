use Rattle.hp_plain.proofs.EqualLists.{lists_told, rows_decided}
use Rattle.hp_plain.proofs.blocks.same_rows.Goals as goal

pub returns : goal.returns
returns c =
    lists_told rows_decided c.args.rows.now c.args.others.now c.eq.result c.eq.ensures
