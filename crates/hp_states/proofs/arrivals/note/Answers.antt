-- The rows are those of the place's memory, so that its end is noted.
use Rattle.std.proofs.lemmas.Result.{on_ok_weaker}
use Rattle.hp_schedules.proofs.Trails.{keeps_none}
use Rattle.hp_states.proofs.arrivals.note.Goals as goal

pub returns-clause-ok : goal.returns-clause-ok
returns-clause-ok o c =
    on_ok_weaker c.note-noted.result
    (λ noted g is. rw c.if-not-is_end.false (rw (c.in_ok-blocks.ensures, is) at noted))
    c.note-noted.ensures.ok

pub returns-then-not-is_end-clause-trail : goal.returns-then-not-is_end-clause-trail
returns-then-not-is_end-clause-trail o c = keeps_none c.args.tally.now
