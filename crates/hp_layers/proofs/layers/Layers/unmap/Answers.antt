use Rattle.std.proofs.Common.{sym, ◌∙◌, arith}
use Rattle.hp_units.specs.declared.events.Event.TheVariants.{Unmap}
use Rattle.hp_units.specs.declared.replies.Refusal.TheVariants.{NoOwner, NoPage, NotMapped}
use Rattle.hp_layers.proofs.PageEvents.{settled, unmap-done}
use Rattle.hp_layers.proofs.Placed.{page-inside, page-returns, tidy-placed}
use Rattle.hp_layers.proofs.Refusals.{no-owner, no-page, not-mapped, owner-there, page-there, read-le, read-lt, refused_for, some-page, unmap_others}
use Rattle.hp_layers.proofs.Rooms.{room-pages, room-turn}
use Rattle.hp_layers.proofs.layers.Layers.unmap.Goals as goal

pub unmap-requires-clause-settled : goal.unmap-requires-clause-settled
unmap-requires-clause-settled c = settled c.args.self.now c.requires.placed

pub give_back-requires-clause-tidy : goal.give_back-requires-clause-tidy
give_back-requires-clause-tidy c = tidy-placed c.args.self.now c.requires.placed

pub give_back-requires-clause-block : goal.give_back-requires-clause-block
give_back-requires-clause-block c =
    page-returns c.args.self.now c.args.owner c.args.page c.in-Some.frame c.requires.placed
    (sym c.frame_at.ensures.frame ∙ c.in-Some.is)

pub returns-clause-ok : goal.returns-clause-ok
returns-clause-ok c =
    unmap-done c.args.self.now c.give_back.new.self c.unmap.new.self c.args.cpu c.args.owner c.args.page
    c.in-Some.frame c.zone_of-zone.result c.reserve.new.self c.unmap.new.tape c.give_back.new.tape
    c.requires.placed (omega (arith, c.if-owner-owners.false, c.owners.ensures.is, c.owner.view_is))
    (omega (arith, c.if-page-pages.false, c.pages.ensures.is, c.page.view_is))
    (sym c.frame_at.ensures.frame ∙ c.in-Some.is) c.reserve.ensures.deltas c.unmap.ensures.layout
    c.unmap.ensures.unmapped c.unmap.ensures.notes c.zone_of-zone.ensures
    c.give_back.ensures

pub returns-then-owner-owners-clause-ok : goal.returns-then-owner-owners-clause-ok
returns-then-owner-owners-clause-ok c =
    let m = c.args.self.now in
    refused_for m c.args.cpu (Unmap c.args.owner c.args.page) c.args.tape.now.deltas NoOwner c.requires.placed
    (no-owner m.layout c.args.owner c.args.page (unmap_others m c.args.owner c.args.page)
    (read-le c.if-owner-owners.true c.owners.ensures.is c.owner.view_is))

pub returns-then-page-pages-clause-ok : goal.returns-then-page-pages-clause-ok
returns-then-page-pages-clause-ok c =
    let m = c.args.self.now in
    refused_for m c.args.cpu (Unmap c.args.owner c.args.page) c.args.tape.now.deltas NoPage c.requires.placed
    (no-page m.layout c.args.owner c.args.page (unmap_others m c.args.owner c.args.page)
    (read-lt c.if-owner-owners.false c.owner.view_is c.owners.ensures.is)
    (read-le c.if-page-pages.true c.pages.ensures.is c.page.view_is))

pub returns-in_default-clause-ok : goal.returns-in_default-clause-ok
returns-in_default-clause-ok c =
    let m = c.args.self.now in
    refused_for m c.args.cpu (Unmap c.args.owner c.args.page) c.args.tape.now.deltas NotMapped
    c.requires.placed
    (some-page m.layout c.args.owner c.args.page (unmap_others m c.args.owner c.args.page)
    (read-lt c.if-owner-owners.false c.owner.view_is c.owners.ensures.is)
    (read-lt c.if-page-pages.false c.page.view_is c.pages.ensures.is)
    ∙ not-mapped m c.args.owner c.args.page (sym c.frame_at.ensures.frame ∙ c.in_default.is))

pub frame_at-requires-clause-owner : goal.frame_at-requires-clause-owner
frame_at-requires-clause-owner c =
    owner-there c.requires.placed c.if-owner-owners.false c.owner.view_is c.owners.ensures.is

pub frame_at-requires-clause-page : goal.frame_at-requires-clause-page
frame_at-requires-clause-page c =
    page-there c.requires.placed c.if-page-pages.false c.page.view_is c.pages.ensures.is

pub unmap-requires-clause-owner : goal.unmap-requires-clause-owner
unmap-requires-clause-owner c =
    owner-there c.requires.placed c.if-owner-owners.false c.owner.view_is c.owners.ensures.is

pub unmap-requires-clause-page : goal.unmap-requires-clause-page
unmap-requires-clause-page c =
    page-there c.requires.placed c.if-page-pages.false c.page.view_is c.pages.ensures.is

pub zone_of-zone-requires-clause-frame : goal.zone_of-zone-requires-clause-frame
zone_of-zone-requires-clause-frame c =
    page-inside c.args.self.now c.args.owner c.args.page c.in-Some.frame c.requires.placed
    (sym c.frame_at.ensures.frame ∙ c.in-Some.is)

pub give_back_room-room-requires-clause-frame : goal.give_back_room-room-requires-clause-frame
give_back_room-room-requires-clause-frame c =
    page-inside c.args.self.now c.args.owner c.args.page c.in-Some.frame c.requires.placed
    (sym c.frame_at.ensures.frame ∙ c.in-Some.is)

pub give_back-requires-clause-room : goal.give_back-requires-clause-room
give_back-requires-clause-room c =
    rw (c.requires.placed.one.cpus, ← c.give_back_room-room.ensures.is)
    (room-pages _ 2 c.give_back_room-room.result c.reserve.new.self c.unmap.new.tape _ _ c.unmap.ensures.notes
    (room-turn c.reserve.new.self c.give_back_room-room.result 2 c.in_ok-reserve.ensures.room))
