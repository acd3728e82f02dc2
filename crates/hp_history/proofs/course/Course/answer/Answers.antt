-- The journal's record is the one that is pushed, and its base stays.
use Rattle.hp_history.proofs.course.Course.answer.Goals as goal

pub invariant_of-self-2 : goal.invariant_of-self-2
invariant_of-self-2 c =
    let made = c.in_ok-answer.ensures.ok in
    let answer = c.in_ok-answer.answer in (
      rw (c.self.invariant.0, ← made.base, ← made.layout),
      rw (c.push_reserved.ensures.items, c.in_ok-reserve.ensures.items, c.self.invariant.1)
          (rw (c.in_ok-recorded.ensures.ok, ← made.history)),
    )

pub returns-clause-ok : goal.returns-clause-ok
returns-clause-ok c = rw (← c.self.view_is) c.in_ok-answer.ensures.ok

pub returns-clause-back : goal.returns-clause-back
returns-clause-back c = rw (← c.self.view_is) c.in_ok-answer.ensures.back
