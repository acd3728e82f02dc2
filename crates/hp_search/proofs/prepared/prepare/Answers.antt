use Rattle.std.proofs.Common.{refl}
use Rattle.std.proofs.lemmas.Result.{err_from_is_err_and}
use Rattle.hp_scripts.specs.Seen.{named_seen}
use Rattle.hp_search.proofs.Known.{unready}
use Rattle.hp_search.proofs.prepared.prepare.Goals as goal

pub returns-in_err-start-clause-err : goal.returns-in_err-start-clause-err
returns-in_err-start-clause-err c =
    let p =
    err_from_is_err_and c.from_residual-in_err-start.result c.from_residual-in_err-start.ensures.1 in
    rw (p.1, p.2)
    (unready c.args.input.now (named_seen c.in_ok-named.named) _ _ c.args.setup _ c.in_ok-named.ensures
    c.in_ok-scenario.ensures refl c.in_err-start.ensures.err)

pub returns-clause-ok : goal.returns-clause-ok
returns-clause-ok c = record {
  number = refl;
  named = named_seen c.in_ok-named.named;
  read = c.in_ok-named.ensures;
  plain = named_seen c.in_ok-scenario.field-0;
  resolved = c.in_ok-scenario.ensures;
  scenario = refl;
  begun = rw c.as_slice.ensures at c.in_ok-start.ensures.ok;
}
