-- The rest of one more free block is passed.
use Rattle.std.proofs.Common.{ℕ, suc, ◌≡◌, ◌+◌, ◌-◌, ◌*◌, Bool, not, sym, ◌∙◌, ap, arith}
use Rattle.std.specs.List.{find, range_with_len}
use Rattle.hp_layers.specs.Commits.{is_in_use}
use Rattle.hp_layers.specs.Layers.{state_of}
use Rattle.hp_layers.proofs.FreeRuns.{find-range_past}
use Rattle.hp_layers.proofs.Migrated.{block-last}
use Rattle.hp_layers.proofs.layers.Layers.lowest_in_use.Goals as goal

pub loop-number-init : goal.loop-number-init
loop-number-init c =
    let p : ℕ → Bool = is_in_use c.args.self.now.layout (state_of c.args.self.now) in
    let size : ℕ = c.block_size-size.result in
    let at : c.block.inside.0 * size ≡ c.block.inside.0 * size + 0 = omega arith in
    let all : size ≡ size - 0 = omega arith in
    ap (λ (n : ℕ). find p (range_with_len (c.args.block * n) n)) (sym c.block_size-size.ensures.is)
    ∙ ap (λ (n : ℕ). find p (range_with_len (n * size) size)) (sym c.block.view_is)
    ∙ ap (λ (n : ℕ). find p (range_with_len n size)) at
    ∙ ap (λ (n : ℕ). find p (range_with_len (c.block.inside.0 * size + 0) n)) all

pub loop-number-preserved : goal.loop-number-preserved
loop-number-preserved c =
    let size : ℕ = c.block_size-size.result in
    let first : ℕ = c.block.inside.0 * size in
    let number : ℕ = c.loop-number.number in
    let free : ℕ = c.free_from-free.result in
    let p : ℕ → Bool = is_in_use c.args.self.now.layout (state_of c.args.self.now) in
    let at : first + number + free ≡ first + (number + free) = omega arith in
    let left : size - number - free ≡ size - (number + free) = omega arith in
    c.loop-number.invariant ∙ find-range_past p (first + number) free (size - number)
    (λ (j : ℕ) below. ap not (c.free_from-free.ensures.free j below))
    ∙ ap (λ (n : ℕ). find p (range_with_len n (size - number - free))) at
    ∙ ap (λ (n : ℕ). find p (range_with_len (first + (number + free)) n)) left

pub free_from-free-requires-clause-frame : goal.free_from-free-requires-clause-frame
free_from-free-requires-clause-frame c =
    omega (
      arith,
      block-last c.args.self.now.layout c.requires.block c.block.view_is c.block_size-size.ensures.is,
      c.loop-number-test.true,
    )

pub returns-then-free-eq0 : goal.returns-then-free-eq0
returns-then-free-eq0 c =
    let size : ℕ = c.block_size-size.result in
    let number : ℕ = c.loop-number.number in
    let p : ℕ → Bool = is_in_use c.args.self.now.layout (state_of c.args.self.now) in
    let left : size - number ≡ suc (size - number - 1) = omega (arith, c.loop-number-test.true) in
    sym (rw (c.loop-number.invariant, left, c.free_from-free.ensures.used c.if-free-eq0.true))

pub returns : goal.returns
returns c =
    let number : ℕ = c.loop-number.number in
    let p : ℕ → Bool = is_in_use c.args.self.now.layout (state_of c.args.self.now) in
    let none : c.block_size-size.result - number ≡ 0 = omega (arith, c.loop-number-test.false) in
    sym (rw (c.loop-number.invariant, none))
