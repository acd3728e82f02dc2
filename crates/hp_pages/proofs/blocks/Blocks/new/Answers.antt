use Rattle.std.proofs.Common.{ℕ, List, replicate, ◌∙◌, ap}
use Rattle.hp_units.specs.LayoutParts.{LayoutParts}
use Rattle.hp_units.specs.Memory.{offline_row}
use Rattle.hp_units.specs.declared.rows.Auto.TheVariants.{Offline}
use Rattle.hp_units.specs.declared.rows.Row.{Row}
use Rattle.hp_pages.proofs.Values.{layer_value}
use Rattle.hp_pages.proofs.blocks.Blocks.new.Goals as goal

pub returns : goal.returns
returns c =
    ap (λ (l : LayoutParts). layer_value l c.in_ok-rows.rows.items Offline) c.in_ok-copy.ensures
    ∙ ap (λ (rows : List Row). layer_value c.args.layout.now rows Offline)
    (c.in_ok-rows.ensures.items_if_clones_equal (λ y e. e)
    ∙ ap (λ (n : ℕ). replicate n offline_row) c.blocks-2.ensures.is)
