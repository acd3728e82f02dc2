use Rattle.std.proofs.Common.{Bor, ap, slice_get, ◌∙◌}
use Rattle.hp_units.specs.declared.rows.Row.{Row}
use Rattle.hp_text.specs.State.{block_line}
use Rattle.hp_text.proofs.Texts.{texts_none, texts_more}
use Rattle.hp_units.proofs.Lists.{item_read}
use Rattle.hp_search.proofs.words.write_blocks.Goals as goal

pub loop-number-init : goal.loop-number-init
loop-number-init c = texts_none (λ block. block_line block (slice_get c.args.rows.now block)) _

pub loop-number-preserved : goal.loop-number-preserved
loop-number-preserved c =
    let here =
    c.copied.ensures ∙ item_read (λ (x : Bor Row). x.now) c.args.rows.now c.loop-number.number c.get.result
    c.get.ensures.lookup.0 c.get.ensures.lookup.1 in
    texts_more (λ block. block_line block (slice_get c.args.rows.now block)) c.loop-number.number _ _ _ _
    c.loop-number.invariant c.in_ok-write_block.ensures (ap (block_line c.loop-number.number) here)
