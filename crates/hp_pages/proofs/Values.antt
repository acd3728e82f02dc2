-- A value of the layer of memory blocks, by its parts.
use Rattle.std.proofs.Common.{List}
use Rattle.hp_units.specs.LayoutParts.{LayoutParts}
use Rattle.hp_units.specs.declared.rows.Auto.{Auto}
use Rattle.hp_units.specs.declared.rows.Row.{Row}
use Rattle.hp_pages.specs.Blocks.{BlocksValue}

-- a layout, the rows of its blocks, and what a block that is added becomes
abbrev pub layer_value : LayoutParts → List Row → Auto → BlocksValue
layer_value l rows auto = record { layout = l; blocks = record { rows = rows; auto = auto } }
