use Rattle.std.proofs.Common.{◌≤◌, arith}
use Rattle.hp_log_pictures.specs.Columns.{peak_at}
use Rattle.hp_log_pictures.proofs.columns.Columns.add_some.Goals as goal

pub returns-clause-held : goal.returns-clause-held
returns-clause-held c =
    λ e low high.
    let h : c.make_room.new.self.count ≤ peak_at c.push_column.new.self e =
    c.in_ok-push_column.ensures.held e (omega (arith, c.in_ok-make_room.ensures.events)) high in
    omega (arith, c.in_ok-make_room.ensures.count)

pub returns-clause-kept : goal.returns-clause-kept
returns-clause-kept c =
    λ e low.
    let a : peak_at c.args.self.now e ≤ peak_at c.make_room.new.self e =
    c.in_ok-make_room.ensures.kept e low in
    let b : peak_at c.make_room.new.self e ≤ peak_at c.push_column.new.self e =
    c.in_ok-push_column.ensures.kept e (omega (arith, c.in_ok-make_room.ensures.events)) in
    omega arith
