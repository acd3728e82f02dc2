use Rattle.std.proofs.lemmas.Result.{IfErr-weaker, err_from_is_err_and, on_ok_weaker}
use Rattle.hp_search.specs.Prepared.{names_of, setting_of}
use Rattle.hp_parts.proofs.Read.{end_taken, not_played, not_pushed}
use Rattle.hp_parts.proofs.taking.take_end.Goals as goal

pub returns-in_err-outcome-clause-err : goal.returns-in_err-outcome-clause-err
returns-in_err-outcome-clause-err c =
    let p = err_from_is_err_and c.from_residual.result c.from_residual.ensures.1 in
    rw (p.1, p.2)
    (not_played _ _ _ _ _ _ c.args.schedule _ c.requires.line
    (rw c.deref.ensures.value at c.in_err-outcome.ensures.err))

pub returns-in-Some-clause-ok : goal.returns-in-Some-clause-ok
returns-in-Some-clause-ok c =
    let own = rw (c.in-Some.is, c.number.ensures, c.deref.ensures.value) at c.in_ok-outcome.ensures.ok in
    on_ok_weaker _ (λ p. end_taken _ _ _ _ _ _ _ p own) c.push_end.ensures.ok

pub returns-in-Some-clause-err : goal.returns-in-Some-clause-err
returns-in-Some-clause-err c =
    let names = names_of c.args.prepared.now in
    let g = setting_of c.args.prepared.now in
    let own = rw (c.in-Some.is, c.number.ensures, c.deref.ensures.value) at c.in_ok-outcome.ensures.ok in
    IfErr-weaker c.push_end.result _ _
    (λ fault h. not_pushed names g c.args.search.now c.args.gathered.now c.args.text.now _ fault
    c.requires.line own h) c.push_end.ensures.err

pub returns-in-None-clause-err : goal.returns-in-None-clause-err
returns-in-None-clause-err c = record {
  count = c.args.count;
  schedule = c.args.schedule;
  line = c.requires.line;
  none = rw (c.in-None.is, c.number.ensures, c.deref.ensures.value) at c.in_ok-outcome.ensures.ok;
}
