-- What holds on the machine where the search begins holds in the scenario.
use Rattle.std.proofs.Common.{string_bytes}
use Rattle.std.proofs.lemmas.Result.{err_from_is_err_and}
use Rattle.hp_search.proofs.Known.{held_in, stopped_in, unprepared_known}
use Rattle.hp_explain.specs.Telling.{IsExplainedOn, IsExplainingCause, OfAnswers}
use Rattle.hp_explain.proofs.Told.{not_searched}
use Rattle.hp_explain.proofs.telling.explain_text.Goals as goal

pub returns-in_err-prepared-clause-err : goal.returns-in_err-prepared-clause-err
returns-in_err-prepared-clause-err g c =
    let p = err_from_is_err_and c.from_residual.result c.from_residual.ensures.1 in
    rw (p.1, p.2) (unprepared_known IsExplainingCause _ _ _ c.in_err-prepared.ensures.err)

pub returns-in_err-seen-clause-err : goal.returns-in_err-seen-clause-err
returns-in_err-seen-clause-err g c =
    let p = err_from_is_err_and c.from_residual-in_err-seen.result c.from_residual-in_err-seen.ensures.1 in
    rw (p.1, p.2) (stopped_in (λ g. Unit {0}) _ _ _ c.in_ok-prepared.ensures.ok tt)

pub returns-in-Ok-clause-ok : goal.returns-in-Ok-clause-ok
returns-in-Ok-clause-ok g c =
    let f = c.in-Ok.told in
    let sizes = rw c.as_slice.ensures.value at c.in_ok-seen.ensures.sizes in
    held_in
    (λ names before s. OfAnswers c.args.answers.now s
    (λ seen. IsExplainedOn c.args.form names before s seen (string_bytes f.text) f.result))
    _ _ _ c.in_ok-prepared.ensures.ok
    (c.in_ok-seen.seen, (sizes, c.in_ok-seen.ensures.words, c.in_ok-seen.ensures.objects), c.in-Ok.ensures.ok)

pub returns-clause-err : goal.returns-clause-err
returns-clause-err g c =
    not_searched c.args.scenario.now c.args.answers.now c.in_ok-prepared.prepared c.in-Err.fault
    c.told_fault.result c.in_ok-prepared.ensures.ok c.told_fault.ensures c.in-Err.ensures.err
