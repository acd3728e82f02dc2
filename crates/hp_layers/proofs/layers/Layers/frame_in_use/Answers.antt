-- One more block is looked at.
use Rattle.std.proofs.Common.{◌≡◌, ◌<◌, ℕ, List, Bool, Some, None, length, sym, ◌∙◌, arith}
use Rattle.std.specs.List.{find}
use Rattle.hp_plain.proofs.Commits.{find-flat_item}
use Rattle.hp_layers.specs.Commits.{is_in_use, leaving_frames}
use Rattle.hp_layers.specs.Layers.{state_of}
use Rattle.hp_layers.proofs.layers.Layers.frame_in_use.Goals as goal

pub returns-in-Some : goal.returns-in-Some
returns-in-Some c =
    let p : ℕ → Bool = is_in_use c.args.self.now.layout (state_of c.args.self.now) in
    let f : ℕ → List ℕ = leaving_frames c.args.self.now.layout (state_of c.args.self.now) in
    let blocks = c.args.blocks.now in
    let i : ℕ = c.loop-block.block-index in
    let below : i < length blocks = omega arith in
    sym (c.loop-block.invariant ∙ find-flat_item p f blocks i c.block-item.result (Some c.in-Some.frame) below
    c.block-item.is c.in-Some.ensures)

pub loop-block-preserved : goal.loop-block-preserved
loop-block-preserved c =
    let p : ℕ → Bool = is_in_use c.args.self.now.layout (state_of c.args.self.now) in
    let f : ℕ → List ℕ = leaving_frames c.args.self.now.layout (state_of c.args.self.now) in
    let blocks = c.args.blocks.now in
    let i : ℕ = c.loop-block.block-index in
    let below : i < length blocks = omega arith in
    let none : None ≡ find p (f c.block-item.result) = cc c.in_default.ensures in
    c.loop-block.invariant ∙ find-flat_item p f blocks i c.block-item.result None below c.block-item.is none
