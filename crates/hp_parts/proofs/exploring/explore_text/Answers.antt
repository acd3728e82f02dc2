-- What holds on the machine where the search begins holds in the scenario.
use Rattle.std.proofs.Common.{string_bytes}
use Rattle.std.proofs.lemmas.Result.{err_from_is_err_and}
use Rattle.hp_search.proofs.Known.{held_in}
use Rattle.hp_parts.specs.Explorations.{IsExploredOn}
use Rattle.hp_parts.proofs.Explorations.{not_explored, not_prepared}
use Rattle.hp_parts.proofs.exploring.explore_text.Goals as goal

pub returns-in_err-prepared-clause-err : goal.returns-in_err-prepared-clause-err
returns-in_err-prepared-clause-err g c =
    let p = err_from_is_err_and c.from_residual.result c.from_residual.ensures.1 in
    rw (p.1, p.2)
    ((not_prepared c.args.input.now c.args.setup c.args.limit _ c.in_err-prepared.ensures.err).0)

pub returns-in_err-prepared-clause-full : goal.returns-in_err-prepared-clause-full
returns-in_err-prepared-clause-full g c =
    let p = err_from_is_err_and c.from_residual.result c.from_residual.ensures.1 in
    rw (p.1, p.2)
    ((not_prepared c.args.input.now c.args.setup c.args.limit _ c.in_err-prepared.ensures.err).1)

pub returns-in-Ok-clause-ok : goal.returns-in-Ok-clause-ok
returns-in-Ok-clause-ok g c =
    let f = c.in-Ok.finding in
    held_in
    (λ names before s. IsExploredOn c.args.form c.args.by names before s c.args.limit
    (g.W.Watch.has_ended c.explored.new.watch) (string_bytes f.text) f.is_found)
    c.args.input.now c.args.setup c.in_ok-prepared.prepared c.in_ok-prepared.ensures.ok c.in-Ok.ensures.ok

pub returns-clause-err : goal.returns-clause-err
returns-clause-err g c =
    (not_explored c.args.input.now c.args.setup c.args.limit c.in_ok-prepared.prepared c.in-Err.fault
    c.told_fault.result c.in_ok-prepared.ensures.ok c.told_fault.ensures c.in-Err.ensures.err).0

pub returns-clause-full : goal.returns-clause-full
returns-clause-full g c =
    (not_explored c.args.input.now c.args.setup c.args.limit c.in_ok-prepared.prepared c.in-Err.fault
    c.told_fault.result c.in_ok-prepared.ensures.ok c.told_fault.ensures c.in-Err.ensures.err).1
