use Rattle.std.proofs.Common.{string_bytes}
use Rattle.std.proofs.lemmas.Result.{err_from_is_err_and}
use Rattle.hp_commands.proofs.Audited.{audit_text}
use Rattle.hp_commands.proofs.audits.audited_text.Goals as goal

pub returns-in_err-check_history-clause-err : goal.returns-in_err-check_history-clause-err
returns-in_err-check_history-clause-err c =
    let p =
    err_from_is_err_and c.from_residual-in_err-check_history.result
    c.from_residual-in_err-check_history.ensures.1 in
    rw (p.1, p.2) (c.in_err-check_history.ensures.err c.args.closed.now.volumes.items)

pub returns-clause-ok : goal.returns-clause-ok
returns-clause-ok c =
    let base = c.in_ok-check_volumes.ensures.ok in
    let state = c.in_ok-check_history.ensures.ok in (
      record { chain = base.0; base = base.1; legal = state.0; state = state.1 },
      audit_text (string_bytes c.new-out.result) (string_bytes c.write_records.new.out)
          (string_bytes c.push_str.new.self) c.args.closed.now.records c.new-out.ensures.bytes
          c.in_ok-write_records.ensures c.in_ok-push_str.ensures.bytes,
    )
