-- The replies so far are read.
use Rattle.std.proofs.Common.{take}
use Rattle.hp_questions.specs.PlanEnds.{AreRead}
use Rattle.hp_questions.proofs.plan_ends.plan_ends.Given as goal

abbrev pub invariant-loop-reply : goal.invariant-loop-reply
invariant-loop-reply l =
    AreRead l.cpus l.script (take l.reply-index l.replies) l.positions.cursors.items l.calls.items
    l.ends.items
