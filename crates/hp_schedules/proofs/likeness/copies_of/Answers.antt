-- One processor's replies more.
use Rattle.hp_schedules.proofs.Copied.{copied_more}
use Rattle.hp_schedules.proofs.likeness.copies_of.Goals as goal

pub loop-answers-preserved : goal.loop-answers-preserved
loop-answers-preserved c =
    copied_more c.args.all.now c.loop-answers.copies.items c.push_reserved.new.self.items
    c.loop-answers.answers-index c.answers-item.result c.in_ok-copy.copy c.loop-answers-test.true
    c.answers-item.is c.loop-answers.invariant c.in_ok-copy.ensures
    (rw (c.push_reserved.ensures.items, c.in_ok-reserve.ensures.items))
