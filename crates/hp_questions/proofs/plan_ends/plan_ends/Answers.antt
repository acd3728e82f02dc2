-- Each reply is read in turn.
use Rattle.std.proofs.Common.{refl, take}
use Rattle.std.proofs.lemmas.List.{take_all}
use Rattle.std.proofs.lemmas.Option.{slice_get_read}
use Rattle.hp_laws.proofs.Replays.{take_one}
use Rattle.hp_questions.proofs.Reading.{read_none}
use Rattle.hp_questions.proofs.plan_ends.plan_ends.Goals as goal

pub loop-reply-init : goal.loop-reply-init
loop-reply-init c =
    rw (c.new-calls.ensures.items)
    (read_none c.args.cpus c.args.script.now c.in_ok-positions.positions.cursors.items c.new-ends.result.items
    (rw c.from_ref.ensures.value at c.in_ok-positions.ensures.many)
    (rw c.from_ref.ensures.value at c.in_ok-positions.ensures.begun) c.new-ends.ensures.items)

pub loop-reply-preserved : goal.loop-reply-preserved
loop-reply-preserved c =
    rw (take_one c.args.replies.now c.loop-reply.reply-index c.reply-item.result
    (slice_get_read _ _ _ _ refl c.loop-reply-test.true c.reply-item.is))
    (c.in_ok-read_reply.ensures (take c.loop-reply.reply-index c.args.replies.now) c.loop-reply.invariant)

pub returns : goal.returns
returns c =
    rw (
      c.loop-reply.invariant.ends_are,
      take_all c.loop-reply.reply-index c.args.replies.now c.loop-reply-test.false,
    )
