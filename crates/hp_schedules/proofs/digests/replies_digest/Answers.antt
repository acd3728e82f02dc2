-- One processor more.
use Rattle.hp_schedules.proofs.Known.{digest_more}
use Rattle.hp_schedules.proofs.digests.replies_digest.Goals as goal

pub loop-cpu-preserved : goal.loop-cpu-preserved
loop-cpu-preserved c =
    digest_more c.args.records.now c.loop-cpu.cpu c.loop-cpu.digest c.processor_digest.result
    c.mixed-digest.result c.loop-cpu.invariant c.processor_digest.ensures c.mixed-digest.ensures
