use Rattle.std.proofs.Common.{◌≡◌, ◌+◌, ◌<◌, Fits, w64, ℕ, refl, sym, ◌∙◌, subst, arith}
use Rattle.hp_units.specs.LayoutParts.{LayoutParts}
use Rattle.hp_units.specs.Arithmetic.{frame_count}
use Rattle.hp_units.specs.declared.events.Event.TheVariants.{Map}
use Rattle.hp_units.specs.declared.replies.Refusal.TheVariants.{AlreadyMapped, NoFrame, NoOwner, NoPage}
use Rattle.hp_tape.specs.Tapes.{HasRoom}
use Rattle.hp_laws.proofs.EventSteps.{not_there}
use Rattle.hp_layers.specs.Frames.{free_of, page_frame_bound}
use Rattle.hp_layers.proofs.Answers.{refused_none}
use Rattle.hp_layers.proofs.PageEvents.{map-done, map-refused, settled, taken-free, taken-inside}
use Rattle.hp_layers.proofs.Placed.{tidy-placed}
use Rattle.hp_layers.proofs.Refusals.{is-mapped, map_others, no-owner, no-page, owner-there, page-there, read-le, read-lt, refused_for, some-page}
use Rattle.hp_layers.proofs.Rooms.{page-fits, room-free, room-less}
use Rattle.hp_layers.proofs.layers.Layers.map.Goals as goal

pub page_frame-requires-clause-tidy : goal.page_frame-requires-clause-tidy
page_frame-requires-clause-tidy c = tidy-placed c.args.self.now c.requires.placed

pub map-requires-clause-free : goal.map-requires-clause-free
map-requires-clause-free c =
    taken-free c.args.self.now _ _ _ _ _ c.in-Some.frame c.requires.placed c.in-Some.ensures

pub map-requires-clause-settled : goal.map-requires-clause-settled
map-requires-clause-settled c = settled c.args.self.now c.requires.placed

pub returns-in-Some-clause-ok : goal.returns-in-Some-clause-ok
returns-in-Some-clause-ok c =
    map-done c.args.self.now c.page_frame.new.self c.map.new.self c.args.cpu c.args.owner c.args.page
    c.in-Some.frame c.reserve.new.self c.page_frame.new.tape c.map.new.tape c.requires.placed
    (omega (arith, c.if-owner-owners.false, c.owners.ensures.is, c.owner.view_is))
    (omega (arith, c.if-page-pages.false, c.pages.ensures.is, c.page.view_is))
    (sym c.frame_at.ensures.frame ∙ not_there c.frame_at.result (sym c.is_some.ensures ∙ c.if-is_some.false))
    c.reserve.ensures.deltas c.in-Some.ensures c.map.ensures.layout c.map.ensures.mapped c.map.ensures.notes

pub returns-in-None-clause-ok : goal.returns-in-None-clause-ok
returns-in-None-clause-ok c =
    let m = c.args.self.now in
    refused_none m c.page_frame.new.self (Map c.args.owner c.args.page) _ c.args.tape.now.deltas
    c.reserve.new.self c.page_frame.new.tape NoFrame c.requires.placed (c.in-None.ensures.none refl)
    c.reserve.ensures.deltas
    (map-refused m c.page_frame.new.self c.args.cpu c.args.owner c.args.page _ c.reserve.new.self
    c.page_frame.new.tape c.requires.placed
    (omega (arith, c.if-owner-owners.false, c.owners.ensures.is, c.owner.view_is))
    (omega (arith, c.if-page-pages.false, c.pages.ensures.is, c.page.view_is))
    (sym c.frame_at.ensures.frame ∙ not_there c.frame_at.result (sym c.is_some.ensures ∙ c.if-is_some.false))
    c.in-None.ensures)

pub returns-then-owner-owners-clause-ok : goal.returns-then-owner-owners-clause-ok
returns-then-owner-owners-clause-ok c =
    let m = c.args.self.now in
    refused_for m c.args.cpu (Map c.args.owner c.args.page) c.args.tape.now.deltas NoOwner c.requires.placed
    (no-owner m.layout c.args.owner c.args.page (map_others m c.args.cpu c.args.owner c.args.page)
    (read-le c.if-owner-owners.true c.owners.ensures.is c.owner.view_is))

pub returns-then-page-pages-clause-ok : goal.returns-then-page-pages-clause-ok
returns-then-page-pages-clause-ok c =
    let m = c.args.self.now in
    refused_for m c.args.cpu (Map c.args.owner c.args.page) c.args.tape.now.deltas NoPage c.requires.placed
    (no-page m.layout c.args.owner c.args.page (map_others m c.args.cpu c.args.owner c.args.page)
    (read-lt c.if-owner-owners.false c.owner.view_is c.owners.ensures.is)
    (read-le c.if-page-pages.true c.pages.ensures.is c.page.view_is))

pub returns-then-is_some-clause-ok : goal.returns-then-is_some-clause-ok
returns-then-is_some-clause-ok c =
    let m = c.args.self.now in
    refused_for m c.args.cpu (Map c.args.owner c.args.page) c.args.tape.now.deltas AlreadyMapped
    c.requires.placed
    (some-page m.layout c.args.owner c.args.page (map_others m c.args.cpu c.args.owner c.args.page)
    (read-lt c.if-owner-owners.false c.owner.view_is c.owners.ensures.is)
    (read-lt c.if-page-pages.false c.page.view_is c.pages.ensures.is)
    ∙ is-mapped m c.args.cpu c.args.owner c.args.page
    (rw (← c.frame_at.ensures.frame, ← c.is_some.ensures) c.if-is_some.true))

pub frame_at-requires-clause-owner : goal.frame_at-requires-clause-owner
frame_at-requires-clause-owner c =
    owner-there c.requires.placed c.if-owner-owners.false c.owner.view_is c.owners.ensures.is

pub frame_at-requires-clause-page : goal.frame_at-requires-clause-page
frame_at-requires-clause-page c =
    page-there c.requires.placed c.if-page-pages.false c.page.view_is c.pages.ensures.is

pub map-requires-clause-owner : goal.map-requires-clause-owner
map-requires-clause-owner c =
    owner-there c.requires.placed c.if-owner-owners.false c.owner.view_is c.owners.ensures.is

pub map-requires-clause-page : goal.map-requires-clause-page
map-requires-clause-page c =
    page-there c.requires.placed c.if-page-pages.false c.page.view_is c.pages.ensures.is

pub page_frame-requires-clause-cpu : goal.page_frame-requires-clause-cpu
page_frame-requires-clause-cpu c = rw c.requires.placed.one.cpus c.requires.cpu

pub page_frame-requires-clause-layout : goal.page_frame-requires-clause-layout
page_frame-requires-clause-layout c = rw c.requires.placed.one.cpus c.requires.placed.one.layout

pub map-requires-clause-unmapped : goal.map-requires-clause-unmapped
map-requires-clause-unmapped c =
    sym c.frame_at.ensures.frame ∙ not_there c.frame_at.result (sym c.is_some.ensures ∙ c.if-is_some.false)

pub map-requires-clause-frame : goal.map-requires-clause-frame
map-requires-clause-frame c =
    subst (λ (l : LayoutParts). c.in-Some.frame < frame_count l) (sym c.requires.placed.one.pages)
    (taken-inside c.args.self.now _ _ _ _ _ c.in-Some.frame c.requires.placed c.in-Some.ensures)

pub page_frame-requires-clause-room : goal.page_frame-requires-clause-room
page_frame-requires-clause-room c =
    rw (c.requires.placed.one.cpus, ← c.page_frame_room-room.ensures)
    (room-less c.reserve.new.self c.page_frame_room-room.result 1 c.in_ok-reserve.ensures.room)

pub map-requires-clause-room : goal.map-requires-clause-room
map-requires-clause-room c =
    let m = c.args.self.now in
    let bound : ℕ = page_frame_bound m.frames.cpus.layout (free_of m.frames) c.args.cpu in
    let is : c.page_frame_room-room.result ≡ bound =
    rw (c.page_frame_room-room.ensures, ← c.requires.placed.one.cpus) in
    room-free _ bound 1 c.reserve.new.self c.page_frame.new.tape _ _ c.page_frame.ensures.notes
    (subst (λ (n : ℕ). HasRoom c.reserve.new.self (n + 1)) is c.in_ok-reserve.ensures.room)

pub overflow_add-room : goal.overflow_add-room
overflow_add-room c =
    let m = c.args.self.now in
    subst (λ (n : ℕ). Fits w64 (n + 1)) (sym c.page_frame_room-room.ensures)
    (page-fits m.layout (free_of m.frames) c.args.cpu c.requires.placed.one.layout)
