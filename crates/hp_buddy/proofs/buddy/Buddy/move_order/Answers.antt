-- The blocks of a pageblock, one after another.
use Rattle.std.proofs.Common.{◌≡◌, ◌≤◌, ◌+◌, ◌*◌, ◌^◌, ℕ, ◌∙◌, ap, subst, arith}
use Rattle.std.proofs.lemmas.Nat.{pow_pos}
use Rattle.hp_units.specs.Arithmetic.{frame_count, pageblock_size}
use Rattle.hp_tape.specs.Tapes.{NotesAreas}
use Rattle.hp_buddy.specs.Moves.{free_one, free_count}
use Rattle.hp_buddy.proofs.Apart.{has_order}
use Rattle.hp_buddy.proofs.Moves.{move_first-moves}
use Rattle.hp_buddy.proofs.Calls.{notes-then, room_left}
use Rattle.hp_buddy.proofs.Pageblocks.{frame_in, count-within, one-same, move_free-first}
use Rattle.hp_buddy.proofs.Strides.{ends-within, stride, whole}
use Rattle.hp_buddy.proofs.buddy.Buddy.move_order.Goals as goal
use Rattle.hp_buddy.proofs.buddy.Buddy.move_order.Goals.{After-blocks_of_order-count, After-nth_block-frame}

-- the pageblock's first frame, and where a block is in it
abbrev first : After-nth_block-frame → ℕ
first c = c.args.pageblock * pageblock_size c.args.self.now.layout

ends : (c : After-nth_block-frame)
    → c.loop-at.at * 2 ^ c.args.order + 2 ^ c.args.order ≤ pageblock_size c.args.self.now.layout
ends c =
    ends-within c.args.self.now.layout c.args.order c.loop-at.at c.requires.order
    (omega (arith, c.blocks_of_order-count.ensures.is))

place : (c : After-nth_block-frame) → c.nth_block-frame.result ≡ first c + c.loop-at.at * 2 ^ c.args.order
place c = rw (c.nth_block-frame.ensures, c.first_frame-first.ensures)

pub nth_block-frame-requires-clause-frame : goal.nth_block-frame-requires-clause-frame
nth_block-frame-requires-clause-frame c =
    let l = c.args.self.now.layout in
    let end =
    ends-within l c.args.order c.loop-at.at c.requires.order
    (omega (arith, c.blocks_of_order-count.ensures.is)) in
    let inside =
    frame_in l c.args.pageblock (c.loop-at.at * 2 ^ c.args.order) c.requires.pageblock
    (omega (arith, end, pow_pos c.args.order)) in
    let few : frame_count l ≤ 2 ^ 20 = c.blocks_of_order-count.ensures.layout.frames in
    omega (arith, inside, c.first_frame-first.ensures)

pub move_block-requires-clause-frame : goal.move_block-requires-clause-frame
move_block-requires-clause-frame c =
    let here = (goal.at.move_block-requires-clause-frame c).After-nth_block-frame in
    let l = c.args.self.now.layout in
    let inside =
    frame_in l c.args.pageblock (c.loop-at.at * 2 ^ c.args.order) c.requires.pageblock
    (omega (arith, ends here, pow_pos c.args.order)) in
    rw c.loop-at.invariant.layout (omega (arith, inside, place here))

pub move_block-requires-clause-apart : goal.move_block-requires-clause-apart
move_block-requires-clause-apart c =
    let l = c.args.self.now.layout in
    rw (c.loop-at.invariant.layout, c.loop-at.invariant.areas)
    (move_first-moves l c.args.self.now.areas c.args.from c.args.to c.args.order (c.args.pageblock *
    pageblock_size l) (c.loop-at.at * 2 ^ c.args.order) c.requires.order c.requires.apart).apart

pub move_block-requires-clause-room : goal.move_block-requires-clause-room
move_block-requires-clause-room c =
    let here = (goal.at.move_block-requires-clause-room c).After-nth_block-frame in
    let l = c.args.self.now.layout in
    let a = c.args.self.now.areas in
    let at = c.loop-at.at * 2 ^ c.args.order in
    let same =
    one-same a c.loop-at.self.areas c.args.from c.args.to c.args.order (first here) at
    c.nth_block-frame.result (has_order l a c.args.order c.requires.apart c.requires.order)
    c.loop-at.invariant.areas (place here) in
    let within =
    count-within a c.args.from c.args.order (first here) at (pageblock_size l)
    (omega (arith, ends here, pow_pos c.args.order)) in
    room_left l (2 * free_count a c.args.from c.args.order (first here) at) (2 * free_one c.loop-at.self.areas
    c.args.from c.args.order c.nth_block-frame.result) c.args.tape.now c.loop-at.tape
    a c.loop-at.self.areas c.loop-at.invariant.notes (omega (arith, same, within, c.requires.room))

pub loop-at-preserved : goal.loop-at-preserved
loop-at-preserved c =
    let here = (goal.at.loop-at-preserved c).After-nth_block-frame in
    let l = c.args.self.now.layout in
    let a = c.args.self.now.areas in
    let at = c.loop-at.at * 2 ^ c.args.order in
    let past = (c.loop-at.at + 1) * 2 ^ c.args.order in
    let next : past ≡ at + 2 ^ c.args.order = grind arith in
    let same =
    one-same a c.loop-at.self.areas c.args.from c.args.to c.args.order (first here) at
    c.nth_block-frame.result (has_order l a c.args.order c.requires.apart c.requires.order)
    c.loop-at.invariant.areas (place here) in
    let within =
    count-within a c.args.from c.args.order (first here) at past
    (omega (arith, next, pow_pos c.args.order)) in
    record {
      areas =
          rw (c.move_block.ensures.areas, place here, c.loop-at.invariant.areas) (rw (← stride l a c.args.from
          c.args.to c.args.pageblock c.args.order c.loop-at.at c.requires.order c.requires.apart));
      layout = c.move_block.ensures.layout ∙ c.loop-at.invariant.layout;
      notes =
          notes-then l c.loop-at.self.layout (2 * free_count a c.args.from c.args.order (first here) at)
          (2 * free_one c.loop-at.self.areas c.args.from c.args.order c.nth_block-frame.result)
          (2 * free_count a c.args.from c.args.order (first here) past) c.args.tape.now c.loop-at.tape
          c.move_block.new.tape a c.loop-at.self.areas c.move_block.new.self.areas
          c.loop-at.invariant.layout
          (omega (arith, same, within)) c.loop-at.invariant.notes c.move_block.ensures.notes;
    }

-- all of them
last : (c : After-blocks_of_order-count) (at : ℕ) → at ≡ c.blocks_of_order-count.result
    → at * 2 ^ c.args.order ≡ pageblock_size c.args.self.now.layout
last c at is =
    ap (λ (n : ℕ). n * 2 ^ c.args.order) (is ∙ c.blocks_of_order-count.ensures.is)
    ∙ whole c.args.order c.args.self.now.layout.order c.requires.order

pub returns-clause-areas : goal.returns-clause-areas
returns-clause-areas c =
    let here = (goal.at.returns-clause-areas c).After-blocks_of_order-count in
    let l = c.args.self.now.layout in
    let a = c.args.self.now.areas in
    rw (c.loop-at.invariant.areas, last here c.loop-at.at (omega arith)) (move_free-first l a c.args.from
    c.args.to c.args.pageblock c.args.order (has_order l a c.args.order c.requires.apart c.requires.order))

pub returns-clause-notes : goal.returns-clause-notes
returns-clause-notes c =
    let here = (goal.at.returns-clause-notes c).After-blocks_of_order-count in
    let l = c.args.self.now.layout in
    let a = c.args.self.now.areas in
    subst (λ (n : ℕ). NotesAreas l (2 * free_count a c.args.from c.args.order
    (c.args.pageblock * pageblock_size l) n) c.args.tape.now c.loop-at.tape c.loop-at.self.areas a)
    (last here c.loop-at.at (omega arith)) c.loop-at.invariant.notes
