-- The one block of the pageblock.
use Rattle.std.proofs.Common.{◌*◌, ◌∙◌, ap, arith}
use Rattle.std.proofs.lemmas.Nat.{pow_pos}
use Rattle.hp_units.specs.Arithmetic.{pageblock_size}
use Rattle.hp_tape.specs.Deltas.{FitsAreas, IsOfAreas, areas_undo}
use Rattle.hp_tape.proofs.Leads.{notes-more}
use Rattle.hp_buddy.specs.Buddy.{BuddyValue}
use Rattle.hp_buddy.specs.Moves.{free_one}
use Rattle.hp_buddy.proofs.Pageblocks.{frame_in}
use Rattle.hp_buddy.proofs.Wholes.{one-le, whole-moved}
use Rattle.hp_buddy.proofs.buddy.Buddy.move_whole.Goals as goal

pub move_block-requires-clause-frame : goal.move_block-requires-clause-frame
move_block-requires-clause-frame c =
    let l = c.args.self.now.layout in
    omega (
      arith,
      frame_in l c.args.pageblock 0 c.requires.pageblock (pow_pos l.order),
      c.first_frame-first.ensures,
    )

pub move_block-requires-clause-room : goal.move_block-requires-clause-room
move_block-requires-clause-room c =
    omega (
      arith,
      one-le c.args.self.now.areas c.args.from c.order.result c.first_frame-first.result,
      pow_pos c.args.self.now.layout.order,
      c.requires.room,
    )

pub returns-clause-areas : goal.returns-clause-areas
returns-clause-areas c =
    whole-moved c.args.self.now.layout c.args.self.now.areas c.move_block.new.self.areas c.args.from
    c.args.to c.args.pageblock c.order.result c.first_frame-first.result
    (c.order.ensures.is ∙ ap (λ (v : BuddyValue). v.layout.order) c.self.view_is)
    c.first_frame-first.ensures c.requires.apart c.requires.whole c.move_block.ensures.areas

pub returns-clause-notes : goal.returns-clause-notes
returns-clause-notes c =
    let l = c.args.self.now.layout in
    let a = c.args.self.now.areas in
    notes-more IsOfAreas FitsAreas areas_undo l
    (2 * free_one a c.args.from c.order.result c.first_frame-first.result) (2 * pageblock_size l)
    c.args.tape.now c.move_block.new.tape c.move_block.new.self.areas a
    (omega (arith, one-le a c.args.from c.order.result c.first_frame-first.result, pow_pos l.order))
    c.move_block.ensures.notes
