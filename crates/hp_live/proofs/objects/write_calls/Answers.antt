use Rattle.hp_live.proofs.Tokens.{more_calls, no_calls}
use Rattle.hp_live.proofs.objects.write_calls.Goals as goal

pub loop-call-init : goal.loop-call-init
loop-call-init c = no_calls c.args.writer.now c.args.calls.now

pub loop-call-preserved : goal.loop-call-preserved
loop-call-preserved c =
    more_calls c.args.calls.now c.loop-call.call-index _ _ _ _ c.loop-call-test.true c.loop-call.invariant
    c.call-item.is c.in_ok-write_call.ensures
