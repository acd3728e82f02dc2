use Rattle.std.proofs.Common.{◌≤◌, ℕ, ◌+◌, ◌*◌, sym, subst}
use Rattle.hp_units.specs.LayoutParts.{LayoutParts}
use Rattle.hp_units.specs.Arithmetic.{frame_count}
use Rattle.hp_layers.proofs.Migrated.{block-last}
use Rattle.hp_layers.proofs.layers.Layers.source_of.Goals as goal

pub lowest_mapped-requires : goal.lowest_mapped-requires
lowest_mapped-requires c =
    let size : ℕ = c.block_size-size.result in
    subst (λ (l : LayoutParts). c.block.inside.0 * size + size ≤ frame_count l) (sym c.requires.one.pages)
    (block-last c.args.self.now.layout c.requires.block c.block.view_is c.block_size-size.ensures.is)
