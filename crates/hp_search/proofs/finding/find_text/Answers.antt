-- What holds on the machine where the search begins holds in the scenario.
use Rattle.std.proofs.Common.{string_bytes}
use Rattle.std.proofs.lemmas.Result.{err_from_is_err_and}
use Rattle.hp_search.proofs.Known.{held_in, stopped_in, unprepared_known}
use Rattle.hp_search.specs.Findings.{IsFoundOn, IsPastLayout, IsSearchCause}
use Rattle.hp_search.proofs.Findings.{not_found, not_past}
use Rattle.hp_search.proofs.finding.find_text.Goals as goal

pub returns-in_err-prepared-clause-err : goal.returns-in_err-prepared-clause-err
returns-in_err-prepared-clause-err g c =
    let p =
    err_from_is_err_and c.from_residual.result c.from_residual.ensures.1 in
    rw (p.1, p.2)
    (not_past c.args.input.now c.args.setup c.args.wanted.now _
    (unprepared_known (IsSearchCause c.args.wanted.now) c.args.input.now c.args.setup _
    c.in_err-prepared.ensures.err))

pub returns-in-Some-clause-err : goal.returns-in-Some-clause-err
returns-in-Some-clause-err g c =
    stopped_in (IsPastLayout c.args.wanted.now c.in-Some.number) c.args.input.now c.args.setup
    c.in_ok-prepared.prepared c.in_ok-prepared.ensures.ok
    (rw c.layout.ensures at c.in-Some.ensures.some)

pub found-requires-clause-within : goal.found-requires-clause-within
found-requires-clause-within g c κs within = rw c.layout.ensures at c.in_default.ensures.none

pub returns-in-Ok-clause-ok : goal.returns-in-Ok-clause-ok
returns-in-Ok-clause-ok g c =
    let f = c.in-Ok.finding in
    held_in
    (λ names before s. IsFoundOn c.args.form names before s c.args.wanted.now (string_bytes f.text) f.result)
    c.args.input.now c.args.setup c.in_ok-prepared.prepared c.in_ok-prepared.ensures.ok c.in-Ok.ensures.ok

pub returns-clause-err : goal.returns-clause-err
returns-clause-err g c =
    not_found c.args.input.now c.args.setup c.args.wanted.now c.in_ok-prepared.prepared c.in-Err.fault
    c.told_fault.result c.in_ok-prepared.ensures.ok
    (rw c.layout.ensures at c.in_default.ensures.none)
    c.told_fault.ensures c.in-Err.ensures.err
