-- An order whose list is empty is skipped, and the first other order is the result.
use Rattle.std.proofs.Common.{◌≡◌, ◌+◌, ◌-◌, ◌∙◌, arith, ap, sym}
use Rattle.hp_units.specs.Memory.{free_list}
use Rattle.hp_units.specs.FreeAreas.{least_order}
use Rattle.hp_buddy.specs.Buddy.{BuddyValue}
use Rattle.hp_buddy.proofs.Searches.{least_order-more, order_or-empty, order_or-some}
use Rattle.hp_buddy.proofs.buddy.Buddy.least_order.Goals as goal

pub returns-then-len-gt0 : goal.returns-then-len-gt0
returns-then-len-gt0 c =
    let a = c.args.self.now.areas in
    let order = c.loop-order.order in
    let end = c.args.self.now.layout.order + 1 in
    let same : c.self.inside.layout.order ≡ c.args.self.now.layout.order =
    ap (λ (v : BuddyValue). v.layout.order) c.self.view_is in
    sym (c.loop-order.invariant
    ∙ least_order-more a c.args.class order end (omega (arith, c.order-order-end.ensures.is))
    ∙ order_or-some (free_list a c.args.class order) order c.len.result
    (least_order a c.args.class (order + 1) (end - (order + 1))) c.len.ensures c.if-len-gt0.true)

pub loop-order-preserved : goal.loop-order-preserved
loop-order-preserved c =
    let a = c.args.self.now.areas in
    let order = c.loop-order.order in
    let end = c.args.self.now.layout.order + 1 in
    let same : c.self.inside.layout.order ≡ c.args.self.now.layout.order =
    ap (λ (v : BuddyValue). v.layout.order) c.self.view_is in
    c.loop-order.invariant
    ∙ least_order-more a c.args.class order end (omega (arith, c.order-order-end.ensures.is))
    ∙ order_or-empty (free_list a c.args.class order) order c.len.result
    (least_order a c.args.class (order + 1) (end - (order + 1))) c.len.ensures c.if-len-gt0.false
