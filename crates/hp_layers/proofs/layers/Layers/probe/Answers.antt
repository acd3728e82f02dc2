use Rattle.std.proofs.Common.{◌≡◌, ℕ, ◌<◌, true, sym, ◌∙◌, subst}
use Rattle.hp_units.specs.Memory.{row_of}
use Rattle.hp_units.specs.Placement.{is_unplugged}
use Rattle.hp_units.specs.declared.events.Event.TheVariants.{Probe}
use Rattle.hp_layers.specs.Layers.{state_of}
use Rattle.hp_layers.proofs.SingleBlocks.{asked-refused, probe-done, probed-low, probed-unplugged}
use Rattle.hp_layers.proofs.layers.Layers.probe.Goals as goal

pub returns-in-Some-clause-ok : goal.returns-in-Some-clause-ok
returns-in-Some-clause-ok c =
    asked-refused c.args.self.now (Probe c.args.address) c.args.tape.now.deltas c.in-Some.refusal
    c.requires.placed (sym c.in-Some.is ∙ c.probe_refusal.ensures)

pub block_at-block-requires : goal.block_at-block-requires
block_at-block-requires c =
    probed-low c.args.self.now.layout (state_of c.args.self.now) c.args.address
    (sym c.in_default.is ∙ c.probe_refusal.ensures)

pub auto_online-requires-clause-block : goal.auto_online-requires-clause-block
auto_online-requires-clause-block c =
    let m = c.args.self.now in
    subst (λ (b : ℕ). b < m.layout.blocks) (sym c.block_at-block.ensures)
    (probed-low m.layout (state_of m) c.args.address (sym c.in_default.is ∙ c.probe_refusal.ensures))

pub auto_online-requires-clause-unplugged : goal.auto_online-requires-clause-unplugged
auto_online-requires-clause-unplugged c =
    let m = c.args.self.now in
    subst (λ (b : ℕ). is_unplugged (row_of m.blocks.blocks b) ≡ true) (sym c.block_at-block.ensures)
    (probed-unplugged m.layout (state_of m) c.args.address (sym c.in_default.is ∙ c.probe_refusal.ensures))

pub returns-clause-ok : goal.returns-clause-ok
returns-clause-ok c =
    probe-done c.args.self.now c.auto_online.new.self c.args.address c.block_at-block.result
    c.reserve.new.self c.auto_online.new.tape c.requires.placed
    (sym c.in_default.is ∙ c.probe_refusal.ensures) c.reserve.ensures.deltas c.block_at-block.ensures
    c.auto_online.ensures
