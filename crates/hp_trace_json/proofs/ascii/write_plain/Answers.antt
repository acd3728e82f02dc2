use Rattle.hp_trace_json.proofs.PlainTexts.{plain_more, plain_none}
use Rattle.hp_trace_json.proofs.ascii.write_plain.Goals as goal

pub loop-c-init : goal.loop-c-init
loop-c-init c = plain_none _

pub loop-c-preserved : goal.loop-c-preserved
loop-c-preserved c = plain_more _ _ _ c.loop-c.invariant c.in_ok-write_character.ensures
