use Rattle.std.proofs.lemmas.List.Elements.{All-push}
use Rattle.hp_check.specs.Adds.{IsRepeat}
use Rattle.hp_check.proofs.repeats.push_repeats_of.Goals as goal

pub loop-key-preserved : goal.loop-key-preserved
loop-key-preserved c =
    rw c.in_ok-push.ensures.items (All-push IsRepeat c.loop-key.found.items _ c.loop-key.invariant tt)
