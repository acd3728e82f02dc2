use Rattle.std.proofs.Common.{ℕ, arith, ◌<◌, ◌≡◌, length, sym}
use Rattle.std.proofs.lemmas.List.{get_or_read}
use Rattle.hp_units.specs.Placement.{IsBlockOf, class_at, covered, list_places}
use Rattle.hp_plain.proofs.Counting.{marked_as, on_each, so_far_all, so_far_more, so_far_twice, total-sum, twice_as}
use Rattle.hp_plain.proofs.free.place_list.Goals as goal

pub returns-then-not-mark : goal.returns-then-not-mark
returns-then-not-mark c placed =
    let frames = c.args.frames.now in
    let x : ℕ = c.first-item.result in
    let low : c.loop-first.first-index < length frames = omega arith in
    (twice_as (λ frame. list_places frame c.args.order frames)
    (λ frame. total-sum (λ (first : ℕ). covered frame c.args.order first) 0 frames)
    (so_far_twice c.loop-first.invariant x low
    (sym (get_or_read frames c.loop-first.first-index x low c.first-item.is 0)) c.if-not-mark.ensures))

pub loop-first-preserved : goal.loop-first-preserved
loop-first-preserved c =
    let frames = c.args.frames.now in
    let x : ℕ = c.first-item.result in
    let low : c.loop-first.first-index < length frames = omega arith in
    so_far_more c.loop-first.invariant x low
    (sym (get_or_read frames c.loop-first.first-index x low c.first-item.is 0)) c.if-not-is_block_of.ensures
    c.if-not-mark.ensures

pub returns : goal.returns
returns c =
    let frames = c.args.frames.now in
    let all : c.loop-first.first-index ≡ length frames = omega arith in (
      on_each (IsBlockOf c.args.layout.now (class_at c.args.layout.now c.args.kinds.now
          c.args.rows.now) c.args.class c.args.order) frames
          (λ k low. c.loop-first.invariant.each k (omega arith)),
      marked_as (λ frame. list_places frame c.args.order frames)
          (λ frame. total-sum (λ (first : ℕ). covered frame c.args.order first) 0 frames)
          (so_far_all c.loop-first.invariant all),
    )
