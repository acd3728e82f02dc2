-- One more item is looked at.
use Rattle.std.proofs.Common.{Bool, true, false, sym, ◌∙◌}
use Rattle.std.specs.Prelude.{◌&&◌, not}
use Rattle.hp_units.specs.declared.plans.Item.{Item}
use Rattle.hp_units.specs.Memory.{row_of}
use Rattle.hp_units.specs.Rows.{is_off, is_online}
use Rattle.hp_layers.proofs.Plans.{found-step, item-within}
use Rattle.hp_layers.proofs.layers.Layers.first_not_online.Goals as goal

pub cannot_go-requires-clause-block : goal.cannot_go-requires-clause-block
cannot_go-requires-clause-block c =
    item-within c.args.self.now.layout c.args.plan.now c.loop-item.item-index c.item-item.result
    c.requires.within c.loop-item-test.true c.item-item.is

pub returns-then-cannot_go : goal.returns-then-cannot_go
returns-then-cannot_go c =
    let p : Item → Bool =
    λ (item : Item).
    is_off item.wish && not (is_online (row_of c.args.self.now.blocks.blocks item.block)) in
    sym (c.loop-item.invariant ∙ found-step p c.args.plan.now c.loop-item.item-index c.item-item.result true
    c.loop-item-test.true c.item-item.is (sym c.cannot_go.ensures ∙ c.if-cannot_go.true))

pub loop-item-preserved : goal.loop-item-preserved
loop-item-preserved c =
    let p : Item → Bool =
    λ (item : Item).
    is_off item.wish && not (is_online (row_of c.args.self.now.blocks.blocks item.block)) in
    c.loop-item.invariant ∙ found-step p c.args.plan.now c.loop-item.item-index c.item-item.result false
    c.loop-item-test.true c.item-item.is (sym c.cannot_go.ensures ∙ c.if-cannot_go.false)
