use Rattle.std.proofs.Common.{Bool, not, ap, ◌∙◌}
use Rattle.std.specs.Bool.{then_some}
use Rattle.std.proofs.lemmas.Result.{on_ok_weaker}
use Rattle.hp_units.specs.PartsSeen.{parts_seen}
use Rattle.hp_check.specs.declared.finding.OutOfRange.TheVariants.{High, Pageblocks}
use Rattle.hp_check.proofs.Added.{of_fault}
use Rattle.hp_check.proofs.Limits.{is_above, outs_are}
use Rattle.hp_check.proofs.ranges.push_parts.Goals as goal

pub returns : goal.returns
returns c =
    on_ok_weaker c.push_each.result
    (λ added. of_fault (outs_are (parts_seen c.args.parts.now) _ _ _ _ _ _ _ _ _ _ _ _ _ c.outside.ensures
    (c.then_some.ensures ∙ ap (λ (b : Bool). then_some (not b) (Pageblocks c.args.parts.now.pageblocks))
    c.is_pageblock_count.ensures.is)
    c.outside-2.ensures c.frames_out.ensures c.outside-3.ensures c.outside-4.ensures
    (c.then_some-2.ensures ∙ ap (λ (b : Bool). then_some b (High c.args.parts.now.high))
    (is_above 1024 c.args.parts.now.high))
    c.outside-5.ensures c.outside-6.ensures c.outside-7.ensures c.outside-8.ensures c.then_some-3.ensures)
    added)
    c.push_each.ensures
