use Rattle.std.proofs.lemmas.Result.{IfOk-weaker}
use Rattle.hp_check.proofs.Agreement.{no_json_found, text_found}
use Rattle.hp_check.proofs.Json.{value_read, value_refused}
use Rattle.hp_check.proofs.checking.faults_of.Goals as goal

pub returns-in-Ok : goal.returns-in-Ok
returns-in-Ok c =
    let read = value_read _ _ c.in-Ok.ensures.ok.0 c.in-Ok.ensures.ok.1 in
    IfOk-weaker _ _ _ (λ found h. text_found _ _ _ read h) c.value_faults.ensures

pub returns-in-Err : goal.returns-in-Err
returns-in-Err c =
    IfOk-weaker _ _ _ (λ found h. no_json_found _ _ (value_refused _ (c.in-Err.ensures.err h.1)) h.0)
    c.no_value.ensures
