use Rattle.std.proofs.Common.{refl, sym, ◌∙◌, arith}
use Rattle.hp_units.specs.Rows.{online_block}
use Rattle.hp_units.specs.declared.events.Event.TheVariants.{Online}
use Rattle.hp_units.specs.declared.replies.Reply.TheVariants.{Done}
use Rattle.hp_tape.specs.Bounds.{online_bound}
use Rattle.hp_layers.specs.Layers.{state_of}
use Rattle.hp_layers.proofs.SingleBlocks.{asked-refused, asked-reworked, offline-low, offline-unplugged}
use Rattle.hp_layers.proofs.layers.Layers.online.Goals as goal

pub returns-in-Some-clause-ok : goal.returns-in-Some-clause-ok
returns-in-Some-clause-ok c =
    asked-refused c.args.self.now (Online c.args.block c.args.zone) c.args.tape.now.deltas c.in-Some.refusal
    c.requires.placed (sym c.in-Some.is ∙ c.offline_refusal.ensures)

pub online_block-requires-clause-block : goal.online_block-requires-clause-block
online_block-requires-clause-block c =
    offline-low c.args.self.now.layout (state_of c.args.self.now) c.args.block
    (sym c.in_default.is ∙ c.offline_refusal.ensures)

pub online_block-requires-clause-unplugged : goal.online_block-requires-clause-unplugged
online_block-requires-clause-unplugged c =
    offline-unplugged c.args.self.now.layout (state_of c.args.self.now) c.args.block
    (sym c.in_default.is ∙ c.offline_refusal.ensures)

pub returns-clause-ok : goal.returns-clause-ok
returns-clause-ok c =
    let m = c.args.self.now in
    asked-reworked m c.online_block.new.self (Online c.args.block c.args.zone) (online_block m.layout
    c.args.zone (state_of m) c.args.block) Done (online_bound m.layout) c.reserve.new.self
    c.online_block.new.tape c.requires.placed (sym c.in_default.is ∙ c.offline_refusal.ensures) refl
    c.reserve.ensures.deltas (omega arith) c.online_block.ensures
