use Rattle.std.proofs.lemmas.Result.{err_from_is_err_and}
use Rattle.hp_pages.proofs.page_table.empty_rows.Goals as goal

pub returns-in_err-rows : goal.returns-in_err-rows
returns-in_err-rows c =
    rw (err_from_is_err_and c.from_residual.result c.from_residual.ensures.1).1 tt

pub returns-in_err-empty : goal.returns-in_err-empty
returns-in_err-empty c =
    let p = err_from_is_err_and c.from_residual-in_err-empty.result c.from_residual-in_err-empty.ensures.1 in
    rw p.1 tt

pub returns-in_err-push : goal.returns-in_err-push
returns-in_err-push c =
    let p = err_from_is_err_and c.from_residual-in_err-push.result c.from_residual-in_err-push.ensures.1 in
    rw p.1 tt
