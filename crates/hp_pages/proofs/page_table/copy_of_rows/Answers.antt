use Rattle.std.proofs.Common.{refl}
use Rattle.std.proofs.lemmas.Result.{err_from_is_err_and}
use Rattle.hp_pages.proofs.PageParts.{copied-more}
use Rattle.hp_pages.proofs.page_table.copy_of_rows.Goals as goal

pub returns-in_err-copy : goal.returns-in_err-copy
returns-in_err-copy c =
    rw (err_from_is_err_and c.from_residual.result c.from_residual.ensures.1).1 tt

pub returns-in_err-copy-2 : goal.returns-in_err-copy-2
returns-in_err-copy-2 c =
    let p =
    err_from_is_err_and c.from_residual-in_err-copy-2.result c.from_residual-in_err-copy-2.ensures.1 in
    rw p.1 tt

pub returns-in_err-push : goal.returns-in_err-push
returns-in_err-push c =
    let p = err_from_is_err_and c.from_residual-in_err-push.result c.from_residual-in_err-push.ensures.1 in
    rw p.1 tt

pub loop-row-preserved : goal.loop-row-preserved
loop-row-preserved c =
    copied-more c.args.rows.now c.args.rows.now c.loop-row.copy.items c.push.new.self.items
    c.loop-row.row-index c.row-item.result c.in_ok-copy-2.field-0 refl c.loop-row-test.true c.row-item.is
    c.in_ok-copy-2.ensures c.loop-row.invariant c.in_ok-push.ensures.items
