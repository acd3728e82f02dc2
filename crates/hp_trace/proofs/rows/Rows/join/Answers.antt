use Rattle.std.proofs.Common.{sym}
use Rattle.hp_trace.proofs.RowsJoined.{row_joined_in}
use Rattle.std.proofs.lemmas.Result.{on_ok_weaker}
use Rattle.hp_trace.proofs.rows.Rows.join.Goals as goal

pub returns : goal.returns
returns c =
    on_ok_weaker c.show.result
    (λ more.
    row_joined_in c.args.row c.in_ok-gone.gone c.push.new.self c.args.self.now _ c.show.new.self
    (sym c.self.view_is) c.in_ok-gone.ensures more) c.show.ensures
