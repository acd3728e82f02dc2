use Rattle.std.proofs.Common.{string_bytes, sym}
use Rattle.hp_trace.proofs.RowsJoined.{all_joined}
use Rattle.hp_trace.proofs.rows.Rows.into_joined_text.Goals as goal

pub returns : goal.returns
returns c =
    let ends = rw c.replace-joiner.ensures.value at c.in_ok-gone.ensures in
    all_joined c.in_ok-gone.gone c.in_ok-gone.last c.replace-joiner.new.dest c.args.self _ _ _
    (string_bytes c.into_text.result) (sym c.all.view_is) ends c.in_ok-show.ensures c.in_ok-show-2.ensures
    c.into_text.ensures
