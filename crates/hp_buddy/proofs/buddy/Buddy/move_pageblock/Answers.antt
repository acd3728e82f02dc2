-- The free blocks move, and then the kind changes.
use Rattle.std.proofs.Common.{◌≡◌, ◌*◌, refl, sym, ◌∙◌, subst, arith}
use Rattle.hp_units.specs.LayoutParts.{LayoutParts}
use Rattle.hp_units.specs.Arithmetic.{pageblock_size}
use Rattle.hp_units.specs.Isolation.{move_pageblock}
use Rattle.hp_tape.specs.Bounds.{move_bound}
use Rattle.hp_buddy.specs.Buddy.{AreApart}
use Rattle.hp_buddy.proofs.Calls.{notes-then}
use Rattle.hp_buddy.proofs.Moves.{Moves}
use Rattle.hp_buddy.proofs.Pageblocks.{pageblock_moved, move_pageblock-moves}
use Rattle.hp_buddy.proofs.buddy.Buddy.move_pageblock.Goals as goal
use Rattle.hp_buddy.proofs.buddy.Buddy.move_pageblock.Goals.{After-set_kind}

is : (c : After-set_kind)
    → c.set_kind.new.self.areas ≡ move_pageblock c.args.self.now.layout c.args.zone c.args.isolated
    c.args.self.now.areas c.args.pageblock
is c =
    pageblock_moved c.args.self.now.layout c.args.zone c.args.isolated c.args.self.now.areas
    c.move_all.new.self.areas c.set_kind.new.self.areas c.args.pageblock c.kind-kind.result
    (record { mobility = c.kind-kind.result.mobility; isolated = c.args.isolated }) c.of_kind-from.result
    c.of_kind-to.result c.kind-kind.ensures refl c.of_kind-from.ensures c.of_kind-to.ensures
    c.move_all.ensures.areas c.set_kind.ensures.areas

moves : (c : After-set_kind) → Moves c.args.self.now.layout c.args.self.now.areas c.set_kind.new.self.areas
moves c =
    rw (is c) (move_pageblock-moves c.args.self.now.layout c.args.zone c.args.isolated c.args.self.now.areas
    c.args.pageblock c.requires.apart)

pub returns-clause-moved : goal.returns-clause-moved
returns-clause-moved c = is (goal.at.returns-clause-moved c).After-set_kind

pub returns-clause-notes : goal.returns-clause-notes
returns-clause-notes c =
    let l = c.args.self.now.layout in
    notes-then l c.move_all.new.self.layout (2 * pageblock_size l) 1 (move_bound l) c.args.tape.now
    c.move_all.new.tape c.set_kind.new.tape
    c.args.self.now.areas c.move_all.new.self.areas c.set_kind.new.self.areas c.move_all.ensures.layout
    (omega arith) c.move_all.ensures.notes c.set_kind.ensures.notes

pub returns-clause-apart : goal.returns-clause-apart
returns-clause-apart c =
    subst (λ (l : LayoutParts). AreApart l c.set_kind.new.self.areas) (sym (c.set_kind.ensures.layout
    ∙ c.move_all.ensures.layout)) (moves (goal.at.returns-clause-apart c).After-set_kind).apart

pub returns-clause-places : goal.returns-clause-places
returns-clause-places c = (moves (goal.at.returns-clause-places c).After-set_kind).places
