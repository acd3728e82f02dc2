-- What is known is told.
use Rattle.std.proofs.lemmas.Result.{IfOk-weaker}
use Rattle.hp_scripts.proofs.counting.interleavings_line.Goals as goal

pub returns : goal.returns
returns c =
    IfOk-weaker c.told_line.result _ _ (λ text h. (c.in_ok-known.known, c.in_ok-known.ensures, h))
    c.told_line.ensures
