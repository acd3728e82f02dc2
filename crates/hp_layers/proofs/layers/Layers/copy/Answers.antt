use Rattle.std.proofs.Common.{List, Option, ℕ}
use Rattle.hp_units.specs.LayoutParts.{LayoutParts}
use Rattle.hp_pages.specs.Pages.{PagesValue}
use Rattle.hp_pages.specs.Blocks.{BlocksValue}
use Rattle.hp_layers.specs.declared.frames.Frames.{Frames}
use Rattle.hp_layers.specs.declared.layers.Layers.{Layers}
use Rattle.hp_layers.proofs.layers.Layers.copy.Goals as goal

abbrev layers_of : LayoutParts → Frames → PagesValue → List (Option ℕ) → BlocksValue → Layers
layers_of l f p k b = record { layout = l; frames = f; pages = p; kernel = k; blocks = b }

pub returns : goal.returns
returns c =
    rw (c.in_ok-copy.ensures, c.in_ok-copy-2.ensures, c.in_ok-copy-3.ensures, c.in_ok-copy-4.ensures)
    (rw c.in_ok-copy-5.ensures)
