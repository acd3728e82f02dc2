use Rattle.std.proofs.Common.{refl}
use Rattle.std.proofs.lemmas.Result.{on_ok_weaker}
use Rattle.hp_text.specs.Plans.{plan_line}
use Rattle.hp_commands.proofs.plans.write_plan.Goals as goal

pub returns : goal.returns
returns c =
    on_ok_weaker c.write_plan_end.result (λ grown. record {
      text = plan_line c.run_to_end-end.result;
      grown = grown;
      is = (c.run_to_end-end.result, c.run_to_end-end.ensures, refl);
    }) c.write_plan_end.ensures
