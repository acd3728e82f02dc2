-- The answer's reply is the record's, or the record is at fault.
use Rattle.std.proofs.lemmas.Bool.{iff_false}
use Rattle.hp_machine.proofs.Replays.{another_reply, followed}
use Rattle.hp_machine.proofs.replaying.follow.Goals as goal

pub returns-then-same-clause-ok : goal.returns-then-same-clause-ok
returns-then-same-clause-ok c =
    followed c.args.journal.now c.answer.new.self c.args.next.now _
    (c.expects.ensures.next.0 c.if-not-expects.false) c.in-Ok.ensures.ok
    (c.same.ensures.0 c.if-same.true)

pub returns-else-same-clause-err : goal.returns-else-same-clause-err
returns-else-same-clause-err c =
    another_reply c.args.journal.now c.answer.new.self c.args.next.now _ c.args.at
    (c.expects.ensures.next.0 c.if-not-expects.false) c.in-Ok.ensures.ok
    (iff_false c.same.ensures c.if-same.false)
