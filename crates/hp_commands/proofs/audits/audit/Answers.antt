use Rattle.std.proofs.lemmas.Result.{IfOk-weaker, MatchResult-weaker}
use Rattle.hp_commands.proofs.Audited.{audit_fails}
use Rattle.hp_commands.proofs.audits.audit.Goals as goal

pub returns-clause-ok : goal.returns-clause-ok
returns-clause-ok g c =
    let worked = c.in_ok-worked.worked in
    IfOk-weaker c.audited_text-text.result _ _ (λ out h. record {
      ends = worked.ends.items;
      volumes = worked.closed.volumes.items;
      machine = worked.closed.machine;
      count = worked.closed.records;
      run = c.in_ok-worked.ensures.ok;
      audited = h.0;
      written = h.1;
    }) c.audited_text-text.ensures.ok

pub returns-clause-err : goal.returns-clause-err
returns-clause-err g c =
    MatchResult-weaker c.audited_text-text.result c.audited_text-text.ensures.err (λ out h. tt)
    (λ fault h. audit_fails c.args.input.now _ _ _ _ fault c.in_ok-worked.ensures.ok h)
