use Rattle.std.proofs.Common.{◌≡◌, Some}
use Rattle.hp_trace_json.specs.Changes.{SetsRow, is_block}
use Rattle.hp_trace_json.specs.Parts.{row_in}
use Rattle.hp_trace_json.proofs.Equal.{is_key, is_other}
use Rattle.hp_trace_json.proofs.Tellings.{values_more, values_none}
use Rattle.hp_trace_json.proofs.blocks.blocks_told.Goals as goal

pub loop-number-init : goal.loop-number-init
loop-number-init c =
    values_none is_block SetsRow (row_in c.args.was.now) (row_in (Some c.args.now.now))
    c.new-told.result.items c.new-told.ensures.items

pub loop-number-preserved : goal.loop-number-preserved
loop-number-preserved c =
    let n = c.loop-number.number in
    values_more is_block SetsRow (row_in c.args.was.now) (row_in (Some c.args.now.now)) (λ x. x.block ≡ n) n
    c.row_in.result c.row.result _ _ c.row_in.ensures c.row.ensures (λ x e. is_key x.block n e)
    (λ k x other e. is_other x.block n k e other) c.loop-number.invariant c.in_ok-tell_block.ensures
