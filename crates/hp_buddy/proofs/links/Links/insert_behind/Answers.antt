use Rattle.std.proofs.Common.{Some, arith, inr, sym, ◌∙◌}
use Rattle.hp_buddy.specs.LinkedLists.{list_at, with_behind, with_list}
use Rattle.hp_buddy.specs.Rings.{table}
use Rattle.hp_buddy.proofs.Views.{Seen, on_in, node_in, node_not_free, next_in, next_not_free, room, put_behind, seen}
use Rattle.hp_buddy.proofs.links.Links.insert_behind.Goals as goal
use Rattle.hp_buddy.proofs.links.Links.insert_behind.Goals.{After-insert}
use Rattle.hp_buddy.proofs.Members.{Member-from_Contains}

pub next-next-requires : goal.next-next-requires
next-next-requires c =
    let s = seen c.self.invariant c.self.view_is in
    let on = Member-from_Contains c.args.after (list_at c.args.self.now c.args.list) c.requires.after_on in
    omega (
      arith,
      node_in s c.args.list c.args.after (on_in s c.args.list c.args.after on) (inr on),
      c.place_of-before.ensures,
    )

pub insert-requires-clause-before_in : goal.insert-requires-clause-before_in
insert-requires-clause-before_in c =
    let s = seen c.self.invariant c.self.view_is in
    let on = Member-from_Contains c.args.after (list_at c.args.self.now c.args.list) c.requires.after_on in
    omega (
      arith,
      node_in s c.args.list c.args.after (on_in s c.args.list c.args.after on) (inr on),
      c.place_of-before.ensures,
    )

pub insert-requires-clause-after_in : goal.insert-requires-clause-after_in
insert-requires-clause-after_in c =
    let s = seen c.self.invariant c.self.view_is in
    let on = Member-from_Contains c.args.after (list_at c.args.self.now c.args.list) c.requires.after_on in
    omega (
      arith,
      next_in s c.args.list c.args.after (on_in s c.args.list c.args.after on) (inr on),
      rw c.place_of-before.ensures at c.next-next.ensures,
    )

pub insert-requires-clause-not_before : goal.insert-requires-clause-not_before
insert-requires-clause-not_before c =
    let s = seen c.self.invariant c.self.view_is in
    let on = Member-from_Contains c.args.after (list_at c.args.self.now c.args.list) c.requires.after_on in
    λ e. node_not_free s c.args.list c.args.after c.args.frame (on_in s c.args.list c.args.after on)
    c.requires.frame_in c.requires.free (inr on)
    (sym c.place_of-before.ensures ∙ e ∙ c.place_of.ensures)

pub insert-requires-clause-not_after : goal.insert-requires-clause-not_after
insert-requires-clause-not_after c =
    let s = seen c.self.invariant c.self.view_is in
    let on = Member-from_Contains c.args.after (list_at c.args.self.now c.args.list) c.requires.after_on in
    λ e. next_not_free s c.args.list c.args.after c.args.frame (on_in s c.args.list c.args.after on)
    c.requires.frame_in c.requires.free (inr on)
    (sym (rw c.place_of-before.ensures at c.next-next.ensures) ∙ e ∙ c.place_of.ensures)

pub insert-requires-clause-room : goal.insert-requires-clause-room
insert-requires-clause-room c =
    let s = seen c.self.invariant c.self.view_is in
    let on = Member-from_Contains c.args.after (list_at c.args.self.now c.args.list) c.requires.after_on in
    room s c.args.list c.args.frame (on_in s c.args.list c.args.after on) c.requires.frame_in c.requires.free

-- the frame is on its list
pushed : (c : After-insert)
    → Seen (with_list c.args.self.now c.args.list
    (with_behind (Some c.args.after) c.args.frame (list_at c.args.self.now c.args.list)))
    c.insert.new.self.frames (table c.insert.new.self.nodes.items) c.insert.new.self.lens.items
pushed c =
    let s = seen c.self.invariant c.self.view_is in
    let on = Member-from_Contains c.args.after (list_at c.args.self.now c.args.list) c.requires.after_on in
    let n = c.insert.new.self in
    put_behind s c.args.list c.args.frame c.args.after c.next-next.result n.frames (table n.nodes.items)
    n.lens.items
    c.requires.frame_in c.requires.free on (rw c.place_of-before.ensures at c.next-next.ensures)
    c.insert.ensures.frames c.insert.ensures.lens
    (rw (c.place_of.ensures, c.place_of-before.ensures) at c.insert.ensures.links)

pub invariant_of-self : goal.invariant_of-self
invariant_of-self c = (pushed (goal.at.invariant_of-self c).After-insert).kept

pub returns : goal.returns
returns c = (pushed (goal.at.returns c).After-insert).is
