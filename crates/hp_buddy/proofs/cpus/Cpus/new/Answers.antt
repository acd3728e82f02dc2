use Rattle.std.proofs.Common.{ℕ, List}
use Rattle.std.proofs.lemmas.Result.{err_from_is_err_and}
use Rattle.hp_units.specs.LayoutParts.{LayoutParts}
use Rattle.hp_units.specs.Boot.{empty_cached}
use Rattle.hp_buddy.specs.Cpus.{CpusValue}
use Rattle.hp_buddy.proofs.Together.{empty-together}
use Rattle.hp_buddy.proofs.cpus.Cpus.new.Goals as goal

pub returns-clause-together : goal.returns-clause-together
returns-clause-together c =
    empty-together c.in_ok-layout.layout c.in_ok-links.links.lists
    (rw (c.in_ok-links.ensures, c.cpus.ensures.is))

pub returns-in_err-layout-clause-value : goal.returns-in_err-layout-clause-value
returns-in_err-layout-clause-value c =
    rw (err_from_is_err_and c.from_residual.result c.from_residual.ensures.1).1 tt

pub returns-in_err-layout-clause-together : goal.returns-in_err-layout-clause-together
returns-in_err-layout-clause-together c =
    rw (err_from_is_err_and c.from_residual.result c.from_residual.ensures.1).1 tt

pub returns-in_err-links-clause-value : goal.returns-in_err-links-clause-value
returns-in_err-links-clause-value c =
    let p = err_from_is_err_and c.from_residual-in_err-links.result c.from_residual-in_err-links.ensures.1 in
    rw p.1 tt

pub returns-in_err-links-clause-together : goal.returns-in_err-links-clause-together
returns-in_err-links-clause-together c =
    let p = err_from_is_err_and c.from_residual-in_err-links.result c.from_residual-in_err-links.ensures.1 in
    rw p.1 tt

abbrev cpus_with : LayoutParts → List (List ℕ) → CpusValue
cpus_with l lists = record { layout = l; cached = lists }

abbrev empty_cpus : LayoutParts → CpusValue
empty_cpus l = record { layout = l; cached = empty_cached l }

pub returns-clause-value : goal.returns-clause-value
returns-clause-value c =
    rw (c.in_ok-links.ensures, c.cpus.ensures.is, c.in_ok-layout.ensures)
