use Rattle.std.proofs.Common.{ℕ, arith, ◌<◌, ◌≡◌, ◌==◌, Some, cond, length, sym}
use Rattle.std.proofs.lemmas.List.{get_or_read}
use Rattle.std.specs.List.{count_by}
use Rattle.hp_units.specs.Arithmetic.{pageblock_of}
use Rattle.hp_units.specs.Placement.{pool_at}
use Rattle.hp_units.proofs.Tables.{held-some}
use Rattle.hp_plain.proofs.Counting.{marked_as, on_each, so_far_all, so_far_more, so_far_twice, total-sum, twice_as}
use Rattle.hp_plain.proofs.cached.place_pool.Goals as goal

pub returns-then-not-mark : goal.returns-then-not-mark
returns-then-not-mark c placed =
    let frames = c.args.frames.now in
    let x : ℕ = c.frame-item.result in
    let low : c.loop-frame.frame-index < length frames = omega arith in
    twice_as (λ frame. count_by (λ other. other == frame) frames)
    (λ frame. total-sum (λ (other : ℕ). cond (other == frame) 1 0) 0 frames)
    (so_far_twice c.loop-frame.invariant x low
    (sym (get_or_read frames c.loop-frame.frame-index x low c.frame-item.is 0))
    (twice_as (λ frame. cond (x == frame) 1 0) (λ frame. sym (held-some frame x)) c.if-not-mark.ensures))

pub loop-frame-preserved : goal.loop-frame-preserved
loop-frame-preserved c =
    let frames = c.args.frames.now in
    let x : ℕ = c.frame-item.result in
    let low : c.loop-frame.frame-index < length frames = omega arith in
    so_far_more c.loop-frame.invariant x low
    (sym (get_or_read frames c.loop-frame.frame-index x low c.frame-item.is 0)) c.if-not-is_of_pool.ensures
    (marked_as (λ frame. cond (x == frame) 1 0) (λ frame. sym (held-some frame x)) c.if-not-mark.ensures)

pub returns : goal.returns
returns c =
    let frames = c.args.frames.now in
    let all : c.loop-frame.frame-index ≡ length frames = omega arith in (
      on_each (λ (other : ℕ). pool_at c.args.layout.now c.args.kinds.now c.args.rows.now
          (pageblock_of c.args.layout.now other) ≡ Some c.args.pool) frames
          (λ k low. c.loop-frame.invariant.each k (omega arith)),
      marked_as (λ frame. count_by (λ other. other == frame) frames)
          (λ frame. total-sum (λ (other : ℕ). cond (other == frame) 1 0) 0 frames)
          (so_far_all c.loop-frame.invariant all),
    )
