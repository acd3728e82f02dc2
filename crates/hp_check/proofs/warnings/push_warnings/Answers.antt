use Rattle.std.proofs.Common.{arith, length}
use Rattle.std.proofs.lemmas.List.Elements.{All-push}
use Rattle.hp_check.specs.Adds.{IsWarning}
use Rattle.hp_check.proofs.warnings.push_warnings.Goals as goal

pub loop-index-preserved : goal.loop-index-preserved
loop-index-preserved c =
    rw c.in_ok-push.ensures.items (All-push (IsWarning (length c.args.lines.now)) c.loop-index.found.items _
    c.loop-index.invariant (omega arith, omega (arith, c.loop-index-test.true)))
