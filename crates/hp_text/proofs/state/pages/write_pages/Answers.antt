use Rattle.std.proofs.Common.{refl}
use Rattle.hp_text.specs.State.{owner_text}
use Rattle.hp_text.proofs.Texts.{texts_none, texts_more}
use Rattle.hp_text.proofs.state.pages.write_pages.Goals as goal

pub loop-number-init : goal.loop-number-init
loop-number-init c =
    texts_none (owner_text c.args.image.now.layout c.args.names.now.keys c.args.image.now.memory.pages) _

pub loop-number-preserved : goal.loop-number-preserved
loop-number-preserved c =
    texts_more (owner_text c.args.image.now.layout c.args.names.now.keys c.args.image.now.memory.pages)
    c.loop-number.number _ _ _ _ c.loop-number.invariant c.in_ok-write_owner.ensures (refl)
