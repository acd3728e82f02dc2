use Rattle.std.proofs.Common.{ℕ, arith, ◌≡◌, ◌<◌, IfSome, Option, None, length, get_or, sym}
use Rattle.std.proofs.lemmas.List.{get_or_read}
use Rattle.hp_units.specs.Placement.{IsKernelAt}
use Rattle.hp_plain.specs.Placing.{kernel_counts, kernel_covered}
use Rattle.hp_plain.proofs.Counting.{marked_as, so_far_all, so_far_more, so_far_twice, total-numbered, twice_as}
use Rattle.hp_plain.proofs.PlacedRows.{kernel_each}
use Rattle.hp_plain.proofs.kernel.place_kernel.Goals as goal

pub returns-then-not-place_entry : goal.returns-then-not-place_entry
returns-then-not-place_entry c placed =
    let kernel = c.args.kernel.now in
    let number : ℕ = c.loop-number.number in
    let entry : Option ℕ = c.index-kernel-number.result in
    let low : number < length kernel = omega arith in
    let is : get_or kernel number None ≡ entry =
    sym (get_or_read kernel number entry low c.index-kernel-number.is None) in
    let here : IfSome entry (IsKernelAt c.args.layout.now c.args.rows.now number) =
    rw (← is) (placed number) in
    twice_as (kernel_counts kernel)
    (λ frame. total-numbered (λ (first : ℕ) (e : Option ℕ). kernel_covered frame first e) 0 kernel)
    (so_far_twice c.loop-number.invariant entry low is (c.if-not-place_entry.ensures here))

pub loop-number-preserved : goal.loop-number-preserved
loop-number-preserved c =
    let kernel = c.args.kernel.now in
    let number : ℕ = c.loop-number.number in
    let entry : Option ℕ = c.index-kernel-number.result in
    let low : number < length kernel = omega arith in
    let is : get_or kernel number None ≡ entry =
    sym (get_or_read kernel number entry low c.index-kernel-number.is None) in
    so_far_more c.loop-number.invariant entry low is c.if-not-place_entry.ensures.0
    c.if-not-place_entry.ensures.1

pub returns : goal.returns
returns c =
    let kernel = c.args.kernel.now in
    let all : c.loop-number.number ≡ length kernel = omega arith in (
      kernel_each c.args.layout.now c.args.rows.now kernel c.loop-number.number all
          c.loop-number.invariant.each,
      marked_as (kernel_counts kernel)
          (λ frame. total-numbered (λ (first : ℕ) (e : Option ℕ). kernel_covered frame first e) 0 kernel)
          (so_far_all c.loop-number.invariant all),
    )
