-- One more item is looked at.
use Rattle.std.proofs.Common.{Bool, true, false, sym, ◌∙◌}
use Rattle.std.specs.Prelude.{◌&&◌, not}
use Rattle.hp_units.specs.declared.plans.Item.{Item}
use Rattle.hp_units.specs.Memory.{row_of}
use Rattle.hp_units.specs.Rows.{is_off, is_offline}
use Rattle.hp_layers.proofs.Plans.{found-step, item-within}
use Rattle.hp_layers.proofs.layers.Layers.first_not_offline.Goals as goal

pub cannot_come-requires-clause-block : goal.cannot_come-requires-clause-block
cannot_come-requires-clause-block c =
    item-within c.args.self.now.layout c.args.plan.now c.loop-item.item-index c.item-item.result
    c.requires.within c.loop-item-test.true c.item-item.is

pub returns-then-cannot_come : goal.returns-then-cannot_come
returns-then-cannot_come c =
    let p : Item → Bool =
    λ (item : Item).
    not (is_off item.wish) && not (is_offline (row_of c.args.self.now.blocks.blocks item.block)) in
    sym (c.loop-item.invariant ∙ found-step p c.args.plan.now c.loop-item.item-index c.item-item.result true
    c.loop-item-test.true c.item-item.is (sym c.cannot_come.ensures ∙ c.if-cannot_come.true))

pub loop-item-preserved : goal.loop-item-preserved
loop-item-preserved c =
    let p : Item → Bool =
    λ (item : Item).
    not (is_off item.wish) && not (is_offline (row_of c.args.self.now.blocks.blocks item.block)) in
    c.loop-item.invariant ∙ found-step p c.args.plan.now c.loop-item.item-index c.item-item.result false
    c.loop-item-test.true c.item-item.is (sym c.cannot_come.ensures ∙ c.if-cannot_come.false)
