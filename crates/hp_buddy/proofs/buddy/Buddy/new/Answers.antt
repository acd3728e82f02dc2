use Rattle.std.proofs.Common.{rules, ◌≡◌, List, ℕ, replicate, arith}
use Rattle.std.proofs.lemmas.Result.{err_from_is_err_and}
use Rattle.hp_units.specs.LayoutParts.{LayoutParts}
use Rattle.hp_units.specs.declared.rows.Kind.{Kind}
use Rattle.hp_units.specs.Arithmetic.{pageblock_count}
use Rattle.hp_units.specs.Boot.{empty_areas}
use Rattle.hp_units.specs.Memory.{plain_kind}
use Rattle.hp_buddy.specs.Buddy.{BuddyValue}
use Rattle.hp_buddy.proofs.Standing.{empty-apart}
use Rattle.hp_buddy.proofs.buddy.Buddy.new.Goals as goal

pub returns-clause-apart : goal.returns-clause-apart
returns-clause-apart c =
    empty-apart c.in_ok-layout.layout c.in_ok-links.links.lists c.in_ok-kinds.kinds.items
    (rw (c.in_ok-links.ensures, c.order.ensures.is))
    (search rules)

pub returns-in_err-layout-clause-value : goal.returns-in_err-layout-clause-value
returns-in_err-layout-clause-value c =
    let p = err_from_is_err_and c.from_residual.result c.from_residual.ensures.1 in
    rw p.1 tt

pub returns-in_err-layout-clause-apart : goal.returns-in_err-layout-clause-apart
returns-in_err-layout-clause-apart c =
    let p = err_from_is_err_and c.from_residual.result c.from_residual.ensures.1 in
    rw p.1 tt

pub returns-in_err-links-clause-value : goal.returns-in_err-links-clause-value
returns-in_err-links-clause-value c =
    let p = err_from_is_err_and c.from_residual-in_err-links.result c.from_residual-in_err-links.ensures.1 in
    rw p.1 tt

pub returns-in_err-links-clause-apart : goal.returns-in_err-links-clause-apart
returns-in_err-links-clause-apart c =
    let p = err_from_is_err_and c.from_residual-in_err-links.result c.from_residual-in_err-links.ensures.1 in
    rw p.1 tt

pub returns-in_err-kinds-clause-value : goal.returns-in_err-kinds-clause-value
returns-in_err-kinds-clause-value c =
    let p = err_from_is_err_and c.from_residual-in_err-kinds.result c.from_residual-in_err-kinds.ensures.1 in
    rw p.1 tt

pub returns-in_err-kinds-clause-apart : goal.returns-in_err-kinds-clause-apart
returns-in_err-kinds-clause-apart c =
    let p = err_from_is_err_and c.from_residual-in_err-kinds.result c.from_residual-in_err-kinds.ensures.1 in
    rw p.1 tt

pub overflow_add-order : goal.overflow_add-order
overflow_add-order c = omega (arith, c.order.ensures.is, c.layout.invariant.order)

pub overflow_mul-order : goal.overflow_mul-order
overflow_mul-order c = omega (arith, c.order.ensures.is, c.layout.invariant.order)

abbrev buddy_with : LayoutParts → List (List ℕ) → List Kind → BuddyValue
buddy_with l lists kinds = record { layout = l; areas = record { lists = lists; kinds = kinds } }

abbrev empty_buddy : LayoutParts → BuddyValue
empty_buddy l = record { layout = l; areas = empty_areas l }

pub returns-clause-value : goal.returns-clause-value
returns-clause-value c =
    let l = c.in_ok-layout.layout in
    let kinds : c.in_ok-kinds.kinds.items ≡ replicate (pageblock_count l) plain_kind =
    rw ((c.in_ok-kinds.ensures.items_if_clones_equal (λ y is. search rules)), c.blocks-2.ensures.is)
    (rw (c.pageblocks.ensures.is, c.plain.ensures)) in
    rw (c.in_ok-links.ensures, c.order.ensures.is, kinds, c.in_ok-layout.ensures)
