-- The replies of one processor more.
use Rattle.hp_schedules.proofs.Places.{replies_more}
use Rattle.hp_schedules.proofs.outcomes.all_answers.Goals as goal

pub loop-cpu-preserved : goal.loop-cpu-preserved
loop-cpu-preserved c =
    rw (c.push_reserved.ensures.items, c.in_ok-reserve.ensures.items)
    (replies_more c.loop-cpu.all.items c.in_ok-answers.answers c.args.records.now c.loop-cpu.cpu
    c.loop-cpu.invariant c.in_ok-answers.ensures)
