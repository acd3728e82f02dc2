use Rattle.std.proofs.Common.{refl, sym}
use Rattle.hp_trace.proofs.RunsLogged.{row_logged}
use Rattle.hp_trace.proofs.rows.Rows.log_row.Goals as goal

pub returns : goal.returns
returns c =
    row_logged c.args.machine.now c.args.self.now _ _ c.observe.new.self (sym c.self.view_is)
    c.in_ok-observe.ensures refl
