-- It is the same after any operations.
use Rattle.std.proofs.lemmas.Result.{IfOk-weaker}
use Rattle.hp_scripts.proofs.Scripted.{known_after_any}
use Rattle.hp_scripts.proofs.counting.known_of.Goals as goal

pub returns : goal.returns
returns c =
    IfOk-weaker c.interleavings_of.result _ _
    (λ known h others sources. known_after_any c.args.cpus c.deref.result.now others c.args.lines.now
    _ sources c.args.limit known (rw (c.deref-2.ensures.value, c.in_ok-scripts.ensures) at h))
    c.interleavings_of.ensures
