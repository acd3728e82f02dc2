use Rattle.std.proofs.Common.{◌∷◌, arith, inl, sym, ◌∙◌}
use Rattle.hp_buddy.specs.LinkedLists.{list_at, with_list}
use Rattle.hp_buddy.specs.Rings.{table}
use Rattle.hp_buddy.proofs.Views.{Seen, next_in, next_not_free, room, pushed_front, seen}
use Rattle.hp_buddy.proofs.links.Links.push_front.Goals as goal
use Rattle.hp_buddy.proofs.links.Links.push_front.Goals.{After-insert}

pub insert-requires-clause-after_in : goal.insert-requires-clause-after_in
insert-requires-clause-after_in c =
    let s = seen c.self.invariant c.self.view_is in
    omega (
      arith,
      next_in s c.args.list c.head-head.result c.requires.list_in (inl c.head-head.ensures),
      c.next-after.ensures,
    )

pub insert-requires-clause-not_after : goal.insert-requires-clause-not_after
insert-requires-clause-not_after c =
    let s = seen c.self.invariant c.self.view_is in
    λ e. next_not_free s c.args.list c.head-head.result c.args.frame c.requires.list_in c.requires.frame_in
    c.requires.free (inl c.head-head.ensures)
    (sym c.next-after.ensures ∙ e ∙ c.place_of.ensures)

pub insert-requires-clause-room : goal.insert-requires-clause-room
insert-requires-clause-room c =
    room (seen c.self.invariant c.self.view_is) c.args.list c.args.frame c.requires.list_in
    c.requires.frame_in c.requires.free

-- the frame is on its list
pushed : (c : After-insert)
    → Seen (with_list c.args.self.now c.args.list (c.args.frame ∷ list_at c.args.self.now c.args.list))
    c.insert.new.self.frames (table c.insert.new.self.nodes.items) c.insert.new.self.lens.items
pushed c =
    let s = seen c.self.invariant c.self.view_is in
    let n = c.insert.new.self in
    pushed_front s c.args.list c.args.frame c.head-head.result c.next-after.result n.frames
    (table n.nodes.items) n.lens.items
    c.requires.list_in c.requires.frame_in c.requires.free c.head-head.ensures c.next-after.ensures
    c.insert.ensures.frames c.insert.ensures.lens
    (rw c.place_of.ensures at c.insert.ensures.links)

pub invariant_of-self : goal.invariant_of-self
invariant_of-self c = (pushed (goal.at.invariant_of-self c).After-insert).kept

pub returns : goal.returns
returns c = (pushed (goal.at.returns c).After-insert).is
