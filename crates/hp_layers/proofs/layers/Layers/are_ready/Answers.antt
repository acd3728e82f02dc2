-- One more block is looked at.
use Rattle.std.proofs.Common.{◌<◌, ℕ, Bool, true, length, sym, ◌∙◌, ap, arith}
use Rattle.hp_plain.proofs.Commits.{all-step}
use Rattle.hp_layers.specs.Commits.{is_ready}
use Rattle.hp_layers.specs.Layers.{state_of}
use Rattle.hp_layers.proofs.layers.Layers.are_ready.Goals as goal

pub loop-block-preserved : goal.loop-block-preserved
loop-block-preserved c =
    let p : ℕ → Bool = is_ready c.args.self.now.layout (state_of c.args.self.now) in
    let blocks = c.args.blocks.now in
    let i : ℕ = c.loop-block.block-index in
    let below : i < length blocks = omega arith in
    c.loop-block.invariant ∙ all-step p blocks i c.block-item.result true below
    (ap p (sym c.block-item.is) ∙ sym c.is_ready.ensures ∙ c.if-not-is_ready.false)
