use Rattle.std.proofs.Common.{ap, slice_get}
use Rattle.hp_text.specs.State.{block_line}
use Rattle.hp_text.proofs.Texts.{texts_none, texts_more}
use Rattle.hp_text.proofs.state.write_blocks.Goals as goal

pub loop-number-init : goal.loop-number-init
loop-number-init c =
    texts_none (λ block. block_line block (slice_get c.args.image.now.memory.blocks.rows block)) _

pub loop-number-preserved : goal.loop-number-preserved
loop-number-preserved c =
    texts_more (λ block. block_line block (slice_get c.args.image.now.memory.blocks.rows block))
    c.loop-number.number _ _ _ _ c.loop-number.invariant c.in_ok-write_block.ensures
    (ap (block_line c.loop-number.number) c.row.ensures)
