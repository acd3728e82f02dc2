use Rattle.std.proofs.Common.{ap}
use Rattle.std.proofs.lemmas.Result.{on_ok_weaker}
use Rattle.hp_text.specs.Answers.{sealed_line}
use Rattle.hp_commands.proofs.seals.write_seal.Goals as goal

pub returns : goal.returns
returns c =
    on_ok_weaker c.write_sealed.result (λ grown. record {
      text = sealed_line c.seal-count.result;
      grown = grown;
      is = (ap sealed_line c.seal-count.ensures.count, c.seal-count.ensures.goes_on);
    }) c.write_sealed.ensures
