-- One more item is looked at.
use Rattle.std.proofs.Common.{◌≡◌, ℕ, Option, Some, None, sym, ◌∙◌}
use Rattle.hp_units.specs.declared.plans.Item.{Item}
use Rattle.hp_units.specs.Refusals.{kernel_frame_in}
use Rattle.hp_layers.specs.Layers.{state_of}
use Rattle.hp_layers.proofs.Plans.{answer-step, item-within}
use Rattle.hp_layers.proofs.layers.Layers.first_unmovable.Goals as goal

pub kernel_frame_in-requires-clause-block : goal.kernel_frame_in-requires-clause-block
kernel_frame_in-requires-clause-block c =
    item-within c.args.self.now.layout c.args.plan.now c.loop-item.item-index c.item-item.result
    c.requires.within c.loop-item-test.true c.item-item.is

pub returns-in-Some : goal.returns-in-Some
returns-in-Some c =
    let f : Item → Option ℕ = kernel_frame_in c.args.self.now.layout (state_of c.args.self.now) in
    sym (c.loop-item.invariant ∙ answer-step f c.args.plan.now c.loop-item.item-index c.item-item.result
    (Some c.in-Some.frame) c.loop-item-test.true c.item-item.is c.in-Some.ensures)

pub loop-item-preserved : goal.loop-item-preserved
loop-item-preserved c =
    let f : Item → Option ℕ = kernel_frame_in c.args.self.now.layout (state_of c.args.self.now) in
    let none : None ≡ f c.item-item.result = cc c.in_default.ensures in
    c.loop-item.invariant ∙ answer-step f c.args.plan.now c.loop-item.item-index c.item-item.result None
    c.loop-item-test.true c.item-item.is none
