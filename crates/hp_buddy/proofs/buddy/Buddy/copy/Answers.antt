use Rattle.std.proofs.Common.{List}
use Rattle.hp_units.specs.LayoutParts.{LayoutParts}
use Rattle.hp_units.specs.declared.rows.Kind.{Kind}
use Rattle.hp_buddy.specs.LinkedLists.{LinkedLists}
use Rattle.hp_buddy.specs.Buddy.{BuddyValue}
use Rattle.hp_buddy.proofs.buddy.Buddy.copy.Goals as goal

abbrev buddy_of : LayoutParts → LinkedLists → List Kind → BuddyValue
buddy_of l links kinds = record { layout = l; areas = record { lists = links.lists; kinds = kinds } }

pub returns : goal.returns
returns c =
    let b = c.self.inside in
    rw (c.in_ok-layout.ensures, c.in_ok-links.ensures, c.in_ok-kinds.ensures.items)
    (rw c.as_slice.ensures.value c.self.view_is)
