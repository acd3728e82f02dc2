use Rattle.std.proofs.Common.{◌≡◌, false, true}
use Rattle.std.proofs.lemmas.Result.{err_from_is_err_and}
use Rattle.hp_commands.proofs.Audited.{first_case, history_refused, led, led_elsewhere, second_case}
use Rattle.hp_commands.proofs.audits.check_history.Goals as goal

pub returns-in_err-replayed-clause-err : goal.returns-in_err-replayed-clause-err
returns-in_err-replayed-clause-err c =
    let p = err_from_is_err_and c.from_residual.result c.from_residual.ensures.1 in
    rw (p.1, p.2) (λ volumes. history_refused volumes c.args.machine.now c.sealed.result c.history.result.now
    c.base.result.now c.in_err-replayed.field-0.0 c.base.ensures c.sealed.ensures c.history.ensures.records
    c.in_err-replayed.ensures.fault c.in_err-replayed.ensures.only)

pub returns-clause-ok : goal.returns-clause-ok
returns-clause-ok c =
    let twin : c.same.result ≡ true = c.if-not-same.false in
    led c.args.machine.now c.sealed.result c.history.result.now c.base.result.now c.in_ok-replayed.replayed
    c.in_ok-image.image c.base.ensures c.sealed.ensures c.history.ensures.records
    c.in_ok-replayed.ensures.legal c.in_ok-replayed.ensures.value c.in_ok-image.ensures
    (first_case c.same.result _ _ c.same.ensures twin)

pub returns-then-not-same-clause-err : goal.returns-then-not-same-clause-err
returns-then-not-same-clause-err c volumes =
    let other : c.same.result ≡ false = c.if-not-same.true in
    led_elsewhere volumes c.args.machine.now c.history.result.now c.base.result.now
    c.in_ok-replayed.replayed c.in_ok-image.image c.base.ensures c.history.ensures.records
    c.in_ok-replayed.ensures.value c.in_ok-image.ensures
    (second_case c.same.result _ _ c.same.ensures other)
