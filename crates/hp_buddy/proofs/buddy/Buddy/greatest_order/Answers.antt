-- An order whose list is empty is skipped.
use Rattle.std.proofs.Common.{◌≡◌, ◌+◌, ◌-◌, ◌≤◌, ◌∙◌, arith, ap, ℕ}
use Rattle.hp_units.specs.Memory.{free_list}
use Rattle.hp_units.specs.FreeAreas.{greatest_order}
use Rattle.hp_buddy.proofs.Searches.{greatest_order-more, order_or-empty}
use Rattle.hp_buddy.proofs.buddy.Buddy.greatest_order.Goals as goal

pub loop-order-preserved : goal.loop-order-preserved
loop-order-preserved c =
    let a = c.args.self.now.areas in
    let first = c.args.first in
    let order = c.loop-order.order - 1 in
    let here : c.loop-order.order ≡ order + 1 = omega arith in
    let low : first ≤ order = omega (arith, c.first.view_is) in
    c.loop-order.invariant ∙ ap (λ (n : ℕ). greatest_order a c.args.class first (n - first)) here
    ∙ greatest_order-more a c.args.class first order low
    ∙ order_or-empty (free_list a c.args.class order) order c.len.result
    (greatest_order a c.args.class first (order - first)) c.len.ensures c.if-len-gt0.false
