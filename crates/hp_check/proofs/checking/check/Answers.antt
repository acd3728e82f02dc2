use Rattle.std.proofs.lemmas.Result.{IfOk-weaker}
use Rattle.hp_scripts.specs.Seen.{named_seen}
use Rattle.hp_check.proofs.Agreement.{faults_agree, faults_have_causes, warnings_agree, warnings_have_causes}
use Rattle.hp_check.proofs.checking.check.Goals as goal

pub returns-in-Ok : goal.returns-in-Ok
returns-in-Ok c =
    let s = named_seen c.in-Ok.named in record {
      agrees =
          IfOk-weaker c.warnings_in.result _ _
          (λ found h. warnings_agree c.args.input.now s found.items c.in-Ok.ensures h) c.warnings_in.ensures;
      causes =
          IfOk-weaker c.warnings_in.result _ _
          (λ found h. warnings_have_causes c.args.input.now s found.items c.in-Ok.ensures h)
          c.warnings_in.ensures;
    }

pub returns-in-Err : goal.returns-in-Err
returns-in-Err c = record {
  agrees =
      IfOk-weaker c.unless_memory.result _ _ (λ found h. faults_agree c.args.input.now found.items h)
      c.unless_memory.ensures;
  causes =
      IfOk-weaker c.unless_memory.result _ _ (λ found h. faults_have_causes c.args.input.now found.items h)
      c.unless_memory.ensures;
}
