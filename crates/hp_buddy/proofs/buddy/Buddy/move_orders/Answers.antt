-- The orders of the layout, one after another.
use Rattle.std.proofs.Common.{◌≡◌, ◌+◌, ◌*◌, ◌∙◌, ap, arith}
use Rattle.hp_units.specs.Arithmetic.{pageblock_size}
use Rattle.hp_tape.specs.Deltas.{FitsAreas, IsOfAreas, areas_undo}
use Rattle.hp_tape.proofs.Leads.{notes-more}
use Rattle.hp_buddy.specs.Buddy.{BuddyValue}
use Rattle.hp_buddy.specs.Moves.{free_count}
use Rattle.hp_buddy.proofs.Calls.{notes-then, room_left}
use Rattle.hp_buddy.proofs.Pageblocks.{move_free_below-moves, order_count, below_next, free_total, total_next, total-le}
use Rattle.hp_buddy.proofs.buddy.Buddy.move_orders.Goals as goal

pub move_order-requires-clause-apart : goal.move_order-requires-clause-apart
move_order-requires-clause-apart c =
    let l = c.args.self.now.layout in
    let same : c.self.inside.layout.order ≡ l.order =
    ap (λ (v : BuddyValue). v.layout.order) c.self.view_is in
    rw (c.loop-order.invariant.layout, c.loop-order.invariant.areas)
    (move_free_below-moves l c.args.self.now.areas c.args.from c.args.to c.args.pageblock c.loop-order.order
    (omega (arith, c.order-order-end.ensures.is)) c.requires.apart).apart

pub move_order-requires-clause-room : goal.move_order-requires-clause-room
move_order-requires-clause-room c =
    let l = c.args.self.now.layout in
    let a = c.args.self.now.areas in
    let first = c.args.pageblock * pageblock_size l in
    let same : c.self.inside.layout.order ≡ l.order =
    ap (λ (v : BuddyValue). v.layout.order) c.self.view_is in
    let count =
    order_count l c.loop-order.self.layout a c.loop-order.self.areas c.args.from c.args.to c.args.pageblock
    c.loop-order.order c.loop-order.invariant.layout c.loop-order.invariant.areas in
    let most =
    total-le l a c.args.from first (pageblock_size l) (c.loop-order.order + 1)
    (omega (arith, c.order-order-end.ensures.is)) c.requires.apart in
    room_left l (2 * free_total a c.args.from first (pageblock_size l) c.loop-order.order)
    (2 * free_count c.loop-order.self.areas c.args.from c.loop-order.order (c.args.pageblock * pageblock_size
    c.loop-order.self.layout) (pageblock_size c.loop-order.self.layout)) c.args.tape.now c.loop-order.tape
    a c.loop-order.self.areas c.loop-order.invariant.notes (omega (
      arith,
      count,
      most,
      total_next a c.args.from first (pageblock_size l) c.loop-order.order,
      c.requires.room,
    ))

pub loop-order-preserved : goal.loop-order-preserved
loop-order-preserved c =
    let l = c.args.self.now.layout in
    let a = c.args.self.now.areas in
    let first = c.args.pageblock * pageblock_size l in
    let count =
    order_count l c.loop-order.self.layout a c.loop-order.self.areas c.args.from c.args.to c.args.pageblock
    c.loop-order.order c.loop-order.invariant.layout c.loop-order.invariant.areas in
    record {
      areas =
          below_next l a c.loop-order.self.areas c.move_order.new.self.areas c.args.from c.args.to
          c.args.pageblock c.loop-order.order c.loop-order.invariant.areas
          (rw (c.move_order.ensures.areas, c.loop-order.invariant.layout));
      layout = c.move_order.ensures.layout ∙ c.loop-order.invariant.layout;
      notes =
          notes-then l c.loop-order.self.layout
          (2 * free_total a c.args.from first (pageblock_size l) c.loop-order.order)
          (2 * free_count c.loop-order.self.areas c.args.from c.loop-order.order (c.args.pageblock
          * pageblock_size c.loop-order.self.layout) (pageblock_size c.loop-order.self.layout))
          (2 * free_total a c.args.from first (pageblock_size l) (c.loop-order.order + 1)) c.args.tape.now
          c.loop-order.tape c.move_order.new.tape a c.loop-order.self.areas c.move_order.new.self.areas
          c.loop-order.invariant.layout
          (omega (arith, count, total_next a c.args.from first (pageblock_size l) c.loop-order.order))
          c.loop-order.invariant.notes c.move_order.ensures.notes;
    }

pub returns-clause-notes : goal.returns-clause-notes
returns-clause-notes c =
    let l = c.args.self.now.layout in
    let a = c.args.self.now.areas in
    let first = c.args.pageblock * pageblock_size l in
    let same : c.self.inside.layout.order ≡ l.order =
    ap (λ (v : BuddyValue). v.layout.order) c.self.view_is in
    let most =
    total-le l a c.args.from first (pageblock_size l) c.loop-order.order
    (omega (arith, c.order-order-end.ensures.is)) c.requires.apart in
    notes-more IsOfAreas FitsAreas areas_undo l (2 * free_total a c.args.from first (pageblock_size l)
    c.loop-order.order) (2 * pageblock_size l) c.args.tape.now c.loop-order.tape c.loop-order.self.areas a
    (omega (arith, most)) c.loop-order.invariant.notes
