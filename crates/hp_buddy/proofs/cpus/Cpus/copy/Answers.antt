use Rattle.hp_units.specs.LayoutParts.{LayoutParts}
use Rattle.hp_buddy.specs.LinkedLists.{LinkedLists}
use Rattle.hp_buddy.specs.Cpus.{CpusValue}
use Rattle.hp_buddy.proofs.cpus.Cpus.copy.Goals as goal

abbrev cpus_of : LayoutParts → LinkedLists → CpusValue
cpus_of l k = record { layout = l; cached = k.lists }

pub returns : goal.returns
returns c = rw (c.in_ok-layout.ensures, c.in_ok-links.ensures) c.self.view_is
