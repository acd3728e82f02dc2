use Rattle.std.proofs.Common.{refl}
use Rattle.hp_text.specs.State.{processor_lists_text}
use Rattle.hp_text.proofs.Texts.{texts_none, texts_more}
use Rattle.hp_text.proofs.state.write_processors.Goals as goal

pub loop-number-init : goal.loop-number-init
loop-number-init c = texts_none (processor_lists_text c.args.image.now.memory.free) _

pub loop-number-preserved : goal.loop-number-preserved
loop-number-preserved c =
    texts_more (processor_lists_text c.args.image.now.memory.free) c.loop-number.number _ _ _ _
    c.loop-number.invariant c.in_ok-write_processor.ensures (refl)
