use Rattle.hp_buddy.specs.LinkedLists.{list_at}
use Rattle.hp_buddy.proofs.Views.{list_is, found_on, found_in, found_none, apart, seen}
use Rattle.hp_buddy.proofs.links.Links.list_of.Goals as goal
use Rattle.hp_buddy.proofs.Members.{Member-from_Contains}

pub returns-clause-on : goal.returns-clause-on
returns-clause-on c = λ l on. rw (c.list.ensures, c.place_of.ensures) (list_is
    (seen c.self.invariant c.self.view_is) l c.args.frame
    (Member-from_Contains c.args.frame (list_at c.args.self.now l) on))

pub returns-clause-listed : goal.returns-clause-listed
returns-clause-listed c =
    found_on (seen c.self.invariant c.self.view_is) c.list.result c.args.frame c.requires
    (rw c.place_of.ensures at c.list.ensures)

pub returns-clause-in_range : goal.returns-clause-in_range
returns-clause-in_range c =
    found_in (seen c.self.invariant c.self.view_is) c.list.result c.args.frame c.requires
    (rw c.place_of.ensures at c.list.ensures)

pub returns-clause-free : goal.returns-clause-free
returns-clause-free c =
    found_none (seen c.self.invariant c.self.view_is) c.list.result c.args.frame
    (rw c.place_of.ensures at c.list.ensures)

pub returns-clause-apart : goal.returns-clause-apart
returns-clause-apart c = apart (seen c.self.invariant c.self.view_is)
