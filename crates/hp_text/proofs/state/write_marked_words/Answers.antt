use Rattle.std.proofs.Common.{ap, slice_get}
use Rattle.hp_text.specs.State.{marked_word}
use Rattle.hp_text.proofs.Texts.{texts_none, texts_more}
use Rattle.hp_text.proofs.state.write_marked_words.Goals as goal

pub loop-number-init : goal.loop-number-init
loop-number-init c =
    texts_none (λ pageblock.
    marked_word c.args.mark pageblock (slice_get c.args.image.now.memory.free.areas.kinds pageblock)) _

pub loop-number-preserved : goal.loop-number-preserved
loop-number-preserved c =
    texts_more (λ pageblock.
    marked_word c.args.mark pageblock (slice_get c.args.image.now.memory.free.areas.kinds pageblock))
    c.loop-number.number _ _ _ _ c.loop-number.invariant c.in_ok-write_marked_word.ensures
    (ap (marked_word c.args.mark c.loop-number.number) c.kind.ensures)
