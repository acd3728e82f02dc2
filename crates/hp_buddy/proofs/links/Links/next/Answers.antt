use Rattle.std.proofs.Common.{sym, ◌∙◌}
use Rattle.hp_buddy.specs.LinkedLists.{list_at}
use Rattle.hp_buddy.proofs.Views.{list_is, found_listed, seen}
use Rattle.hp_buddy.proofs.Members.{Member-from_Contains}
use Rattle.std.proofs.lemmas.Bool.{false≢true}
use Rattle.hp_buddy.proofs.links.Links.next.Goals as goal

pub returns-then-is_none-clause-on : goal.returns-then-is_none-clause-on
returns-then-is_none-clause-on c =
    let s = seen c.self.invariant c.self.view_is in
    λ l on.
    let found =
    (rw c.place_of.ensures at c.list.ensures)
    ∙ list_is s l c.args.frame (Member-from_Contains c.args.frame (list_at c.args.self.now l) on) in
    absurd (false≢true (sym (rw found at c.if-is_none.ensures)))

pub after-requires : goal.after-requires
after-requires c =
    found_listed (seen c.self.invariant c.self.view_is) c.list.result c.args.frame c.requires
    (rw c.place_of.ensures at c.list.ensures) c.if-is_none.ensures

pub returns-clause-free : goal.returns-clause-free
returns-clause-free c =
    λ free.
    let on =
    found_listed (seen c.self.invariant c.self.view_is) c.list.result c.args.frame c.requires
    (rw c.place_of.ensures at c.list.ensures) c.if-is_none.ensures in
    absurd (free on.0 on.1)
