-- One more pageblock is looked at.
use Rattle.std.proofs.Common.{◌≡◌, ◌+◌, ◌-◌, ◌*◌, ◌<◌, zero, ℕ, Bool, true, false, sym, ◌∙◌, ap, arith}
use Rattle.std.specs.List.{list_all, range_with_len}
use Rattle.hp_units.specs.Arithmetic.{pageblock_size}
use Rattle.hp_units.specs.FreeAreas.{is_on}
use Rattle.hp_units.specs.Memory.{free_list, isolated_class}
use Rattle.hp_plain.proofs.Ranges.{all-range_step}
use Rattle.hp_layers.proofs.Pageblocks.{first-fits, pageblock-fits, pageblock-inside}
use Rattle.hp_layers.proofs.frames.Frames.is_all_free.Goals as goal

pub loop-number-preserved : goal.loop-number-preserved
loop-number-preserved c =
    let l = c.args.layout.now in
    let first : ℕ = c.block.inside.0 * c.pageblocks-count.result in
    let n : ℕ = c.loop-number.number in
    let p : ℕ → Bool =
    λ (pageblock : ℕ). is_on (pageblock * pageblock_size l)
    (free_list c.args.self.now.buddy.areas (isolated_class c.args.zone) l.order) in
    let below : n < l.pageblocks = omega (arith, c.pageblocks-count.ensures.is) in
    c.loop-number.invariant ∙ all-range_step p first n l.pageblocks true below
    (sym c.is_isolated_block.ensures ∙ c.if-not-is_isolated_block.false)

pub overflow_mul-first : goal.overflow_mul-first
overflow_mul-first c =
    first-fits c.pageblocks-count.ensures.layout c.requires.block c.block.view_is
    c.pageblocks-count.ensures.is

pub overflow_add-first : goal.overflow_add-first
overflow_add-first c =
    pageblock-fits c.pageblocks-count.ensures.layout c.requires.block c.block.view_is
    c.pageblocks-count.ensures.is c.loop-number-test.true

pub is_isolated_block-requires-clause-pageblock : goal.is_isolated_block-requires-clause-pageblock
is_isolated_block-requires-clause-pageblock c =
    pageblock-inside c.args.layout.now c.requires.block c.block.view_is c.pageblocks-count.ensures.is
    c.loop-number-test.true

pub loop-number-init : goal.loop-number-init
loop-number-init c =
    let l = c.args.layout.now in
    let first : ℕ = c.block.inside.0 * c.pageblocks-count.result in
    let p : ℕ → Bool =
    λ (pageblock : ℕ). is_on (pageblock * pageblock_size l)
    (free_list c.args.self.now.buddy.areas (isolated_class c.args.zone) l.order) in
    ap (λ (b : ℕ). list_all p (range_with_len (b * l.pageblocks) l.pageblocks)) (sym c.block.view_is)
    ∙ ap (λ (n : ℕ). list_all p (range_with_len (c.block.inside.0 * n) l.pageblocks))
    (sym c.pageblocks-count.ensures.is)
    ∙ ap (λ (n : ℕ). list_all p (range_with_len n l.pageblocks)) (more first)
    ∙ ap (λ (n : ℕ). list_all p (range_with_len (first + 0) n)) (less l.pageblocks)
  where
    more : (n : ℕ) → n ≡ n + 0
    more n = omega arith

    less : (n : ℕ) → n ≡ n - 0
    less n = omega arith

pub returns-then-not-is_isolated_block : goal.returns-then-not-is_isolated_block
returns-then-not-is_isolated_block c =
    let l = c.args.layout.now in
    let first : ℕ = c.block.inside.0 * c.pageblocks-count.result in
    let n : ℕ = c.loop-number.number in
    let p : ℕ → Bool =
    λ (pageblock : ℕ). is_on (pageblock * pageblock_size l)
    (free_list c.args.self.now.buddy.areas (isolated_class c.args.zone) l.order) in
    let below : n < l.pageblocks = omega (arith, c.pageblocks-count.ensures.is) in
    sym (c.loop-number.invariant ∙ all-range_step p first n l.pageblocks false below
    (sym c.is_isolated_block.ensures ∙ c.if-not-is_isolated_block.true))

pub returns : goal.returns
returns c =
    let l = c.args.layout.now in
    let first : ℕ = c.block.inside.0 * c.pageblocks-count.result in
    let n : ℕ = c.loop-number.number in
    let p : ℕ → Bool =
    λ (pageblock : ℕ). is_on (pageblock * pageblock_size l)
    (free_list c.args.self.now.buddy.areas (isolated_class c.args.zone) l.order) in
    let none : l.pageblocks - n ≡ zero = omega (arith, c.pageblocks-count.ensures.is) in
    sym (c.loop-number.invariant ∙ ap (λ (k : ℕ). list_all p (range_with_len (first + n) k)) none)
