-- One more item is looked at.
use Rattle.std.proofs.Common.{Bool, true, false, sym, ◌∙◌}
use Rattle.hp_units.specs.declared.plans.Item.{Item}
use Rattle.hp_units.specs.Memory.{row_of}
use Rattle.hp_units.specs.Rows.{is_claimed}
use Rattle.hp_layers.proofs.Plans.{found-step, item-within}
use Rattle.hp_layers.proofs.layers.Layers.first_claimed.Goals as goal

pub is_claimed-requires-clause-block : goal.is_claimed-requires-clause-block
is_claimed-requires-clause-block c =
    item-within c.args.self.now.layout c.args.plan.now c.loop-item.item-index c.item-item.result
    c.requires.within c.loop-item-test.true c.item-item.is

pub returns-then-is_claimed : goal.returns-then-is_claimed
returns-then-is_claimed c =
    let p : Item → Bool = λ (item : Item). is_claimed (row_of c.args.self.now.blocks.blocks item.block) in
    sym (c.loop-item.invariant ∙ found-step p c.args.plan.now c.loop-item.item-index c.item-item.result true
    c.loop-item-test.true c.item-item.is (sym c.is_claimed.ensures ∙ c.if-is_claimed.true))

pub loop-item-preserved : goal.loop-item-preserved
loop-item-preserved c =
    let p : Item → Bool = λ (item : Item). is_claimed (row_of c.args.self.now.blocks.blocks item.block) in
    c.loop-item.invariant ∙ found-step p c.args.plan.now c.loop-item.item-index c.item-item.result false
    c.loop-item-test.true c.item-item.is (sym c.is_claimed.ensures ∙ c.if-is_claimed.false)
