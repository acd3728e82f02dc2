use Rattle.std.proofs.Common.{ℕ, List, Option}
use Rattle.std.proofs.lemmas.Result.{err_from_is_err_and}
use Rattle.hp_units.specs.LayoutParts.{LayoutParts}
use Rattle.hp_pages.specs.Pages.{PagesValue}
use Rattle.hp_pages.specs.Places.{TableValue}
use Rattle.hp_pages.proofs.pages.Pages.copy.Goals as goal

pub returns-in_err-layout : goal.returns-in_err-layout
returns-in_err-layout c =
    rw (err_from_is_err_and c.from_residual.result c.from_residual.ensures.1).1 tt

pub returns-in_err-table : goal.returns-in_err-table
returns-in_err-table c =
    let p = err_from_is_err_and c.from_residual-in_err-table.result c.from_residual-in_err-table.ensures.1 in
    rw p.1 tt

pub returns-in_err-buffers : goal.returns-in_err-buffers
returns-in_err-buffers c =
    let p =
    err_from_is_err_and c.from_residual-in_err-buffers.result c.from_residual-in_err-buffers.ensures.1 in
    rw p.1 tt

pub returns-in_err-zeros : goal.returns-in_err-zeros
returns-in_err-zeros c =
    let p = err_from_is_err_and c.from_residual-in_err-zeros.result c.from_residual-in_err-zeros.ensures.1 in
    rw p.1 tt

abbrev layer_value : LayoutParts → TableValue → List (Option (List ℕ)) → PagesValue
layer_value l table buffers = record { layout = l; pages = record { table = table.rows; buffers = buffers } }

pub returns : goal.returns
returns c =
    rw (c.in_ok-layout.ensures, c.in_ok-table.ensures, c.in_ok-buffers.ensures) c.self.view_is

pub invariant_of-result : goal.invariant_of-result
invariant_of-result c =
    let table = c.in_ok-table.table in
    let zeros = c.in_ok-zeros.zeros in
    rw (c.in_ok-layout.ensures, c.in_ok-table.ensures, c.in_ok-buffers.ensures)
    (rw c.in_ok-zeros.ensures c.self.invariant)
