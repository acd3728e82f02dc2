use Rattle.std.proofs.Common.{List, ◌∙◌, ap}
use Rattle.hp_units.specs.LayoutParts.{LayoutParts}
use Rattle.hp_units.specs.declared.rows.Row.{Row}
use Rattle.hp_pages.proofs.Values.{layer_value}
use Rattle.hp_pages.proofs.blocks.Blocks.copy.Goals as goal

pub returns : goal.returns
returns c =
    let old = c.self.inside in
    ap (λ (l : LayoutParts). layer_value l c.in_ok-rows.rows.items old.auto) c.in_ok-layout.ensures
    ∙ ap (λ (rows : List Row). layer_value old.layout rows old.auto)
    (c.in_ok-rows.ensures.items ∙ c.as_slice.ensures.value) ∙ c.self.view_is
