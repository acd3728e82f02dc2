use Rattle.std.proofs.Common.{◌≡◌, Some, ap, ◌∙◌}
use Rattle.hp_trace_json.specs.Changes.{SetsMobility, is_pageblock}
use Rattle.hp_trace_json.specs.Parts.{is_unmovable, unmovable_in}
use Rattle.hp_trace_json.proofs.Equal.{is_key, is_other}
use Rattle.hp_trace_json.proofs.Tellings.{values_more, values_none}
use Rattle.hp_trace_json.proofs.blocks.pageblocks_told.Goals as goal

pub loop-number-init : goal.loop-number-init
loop-number-init c =
    values_none is_pageblock SetsMobility (unmovable_in c.args.was.now) (unmovable_in (Some c.args.now.now))
    c.new-told.result.items c.new-told.ensures.items

pub loop-number-preserved : goal.loop-number-preserved
loop-number-preserved c =
    let n = c.loop-number.number in
    values_more is_pageblock SetsMobility (unmovable_in c.args.was.now) (unmovable_in (Some c.args.now.now))
    (λ x. x.pageblock ≡ n) n c.unmovable_in-was_unmovable.result c.is_unmovable.result _ _
    c.unmovable_in-was_unmovable.ensures (c.is_unmovable.ensures ∙ ap is_unmovable c.kind.ensures)
    (λ x e. is_key x.pageblock n e) (λ k x other e. is_other x.pageblock n k e other) c.loop-number.invariant
    c.in_ok-tell_pageblock.ensures
