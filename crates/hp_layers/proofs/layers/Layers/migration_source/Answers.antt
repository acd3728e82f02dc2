use Rattle.std.proofs.Common.{◌≡◌, ◌-◌, ◌<◌, sym, ◌∙◌, ap, arith}
use Rattle.hp_units.specs.LayoutParts.{LayoutParts}
use Rattle.hp_layers.specs.Layers.{state_of}
use Rattle.hp_layers.specs.Migrations.{source_from}
use Rattle.hp_layers.proofs.Sources.{source-all, source-between, source-further, source-here, source-past}
use Rattle.hp_layers.proofs.layers.Layers.migration_source.Goals.{In-Some}
use Rattle.hp_layers.proofs.layers.Layers.migration_source.Goals as goal

-- the block that is claimed is of the layout
pub within : (c : In-Some) → c.in-Some.block < c.args.self.now.layout.blocks
within c =
    omega (arith, c.in-Some.ensures.some.high, ap (λ (l : LayoutParts). l.blocks) c.requires.one.blocks)

-- and none before it is claimed
pub skipped : (c : In-Some)
    → source_from c.args.self.now.layout (state_of c.args.self.now) c.args.op c.loop-block.first
    (c.args.self.now.layout.blocks - c.loop-block.first)
    ≡ source_from c.args.self.now.layout (state_of c.args.self.now) c.args.op c.in-Some.block
    (c.args.self.now.layout.blocks - c.in-Some.block)
skipped c =
    source-between c.args.self.now.layout (state_of c.args.self.now) c.args.op c.loop-block.first
    c.in-Some.block c.args.self.now.layout.blocks c.in-Some.ensures.some.low (omega (arith, within c))
    c.in-Some.ensures.some.below

pub returns-in-Some-source_of : goal.returns-in-Some-source_of
returns-in-Some-source_of c =
    let m = c.args.self.now in
    let here = (goal.at.returns-in-Some-source_of c).In-Some in
    sym (sym (source-all m.layout (state_of m) c.args.op) ∙ (c.loop-block.invariant.left ∙ (skipped here
    ∙ source-here m.layout (state_of m) c.args.op c.in-Some.block m.layout.blocks c.in-Some-source_of.frame
    (within here) (sym c.source_of.ensures ∙ c.in-Some-source_of.is))))

pub loop-block-preserved : goal.loop-block-preserved
loop-block-preserved c =
    let m = c.args.self.now in
    let here = (goal.at.loop-block-preserved c).In-Some in
    let lt = within here in
    record {
      within = omega (arith, lt, c.block.view_is);
      left =
          rw c.block.view_is
          (c.loop-block.invariant.left ∙ (skipped here ∙ source-further m.layout (state_of m) c.args.op
          c.in-Some.block m.layout.blocks lt (sym c.source_of.ensures ∙ c.in_default-source_of.is)));
    }

pub returns : goal.returns
returns c =
    let m = c.args.self.now in
    let none = rw c.requires.one.blocks at c.in_default.ensures.none in
    sym (sym (source-all m.layout (state_of m) c.args.op) ∙ (c.loop-block.invariant.left
    ∙ (source-between m.layout (state_of m) c.args.op c.loop-block.first m.layout.blocks m.layout.blocks
    c.loop-block.invariant.within (omega arith) none
    ∙ source-past m.layout (state_of m) c.args.op m.layout.blocks m.layout.blocks (omega arith))))
