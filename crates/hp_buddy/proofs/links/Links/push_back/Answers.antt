use Rattle.std.proofs.Common.{[], ◌∷◌, ◌++◌, arith, inl, sym, ◌∙◌}
use Rattle.hp_buddy.specs.LinkedLists.{list_at, with_list}
use Rattle.hp_buddy.specs.Rings.{table}
use Rattle.hp_buddy.proofs.Views.{Seen, prev_in, prev_not_free, room, pushed_back, seen}
use Rattle.hp_buddy.proofs.links.Links.push_back.Goals as goal
use Rattle.hp_buddy.proofs.links.Links.push_back.Goals.{After-insert}

pub insert-requires-clause-before_in : goal.insert-requires-clause-before_in
insert-requires-clause-before_in c =
    let s = seen c.self.invariant c.self.view_is in
    omega (
      arith,
      prev_in s c.args.list c.head-head.result c.requires.list_in (inl c.head-head.ensures),
      c.prev-before.ensures,
    )

pub insert-requires-clause-not_before : goal.insert-requires-clause-not_before
insert-requires-clause-not_before c =
    let s = seen c.self.invariant c.self.view_is in
    λ e. prev_not_free s c.args.list c.head-head.result c.args.frame c.requires.list_in c.requires.frame_in
    c.requires.free (inl c.head-head.ensures)
    (sym c.prev-before.ensures ∙ e ∙ c.place_of.ensures)

pub insert-requires-clause-room : goal.insert-requires-clause-room
insert-requires-clause-room c =
    room (seen c.self.invariant c.self.view_is) c.args.list c.args.frame c.requires.list_in
    c.requires.frame_in c.requires.free

-- the frame is on its list
pushed : (c : After-insert)
    → Seen (with_list c.args.self.now c.args.list (list_at c.args.self.now c.args.list ++ c.args.frame ∷ []))
    c.insert.new.self.frames (table c.insert.new.self.nodes.items) c.insert.new.self.lens.items
pushed c =
    let s = seen c.self.invariant c.self.view_is in
    let n = c.insert.new.self in
    pushed_back s c.args.list c.args.frame c.prev-before.result c.head-head.result n.frames
    (table n.nodes.items) n.lens.items
    c.requires.list_in c.requires.frame_in c.requires.free c.prev-before.ensures c.head-head.ensures
    c.insert.ensures.frames c.insert.ensures.lens
    (rw c.place_of.ensures at c.insert.ensures.links)

pub invariant_of-self : goal.invariant_of-self
invariant_of-self c = (pushed (goal.at.invariant_of-self c).After-insert).kept

pub returns : goal.returns
returns c = (pushed (goal.at.returns c).After-insert).is
