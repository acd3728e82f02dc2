-- An order whose buddy is free is joined.
use Rattle.std.proofs.Common.{◌≡◌, ◌-◌, ◌∙◌, arith, ap, sym}
use Rattle.hp_buddy.specs.Buddy.{BuddyValue}
use Rattle.hp_buddy.proofs.Calls.{frame_is_buddy}
use Rattle.hp_buddy.proofs.Searches.{join_order-on}
use Rattle.hp_buddy.proofs.buddy.Buddy.join_order.Goals as goal

pub is_free-requires-clause-frame : goal.is_free-requires-clause-frame
is_free-requires-clause-frame c =
    let same : c.self.inside.layout.order ≡ c.args.self.now.layout.order =
    ap (λ (v : BuddyValue). v.layout.order) c.self.view_is in
    frame_is_buddy c.args.self.now.layout c.args.frame c.loop-order.order c.ancestor-half.result
    c.buddy.result c.requires.frame (omega (arith, c.order-last.ensures.is))
    c.ancestor-half.ensures c.buddy.ensures

pub returns-then-not-is_free-clause-joined : goal.returns-then-not-is_free-clause-joined
returns-then-not-is_free-clause-joined c =
    let a = c.args.self.now.areas in
    let last = c.args.self.now.layout.order in
    let order = c.loop-order.order in
    let same : c.self.inside.layout.order ≡ last = ap (λ (v : BuddyValue). v.layout.order) c.self.view_is in
    sym (rw c.loop-order.invariant (rw (join_order-on a c.args.class c.args.frame order last
    c.ancestor-half.result c.buddy.result c.is_free.result (omega (arith, c.order-last.ensures.is))
    c.ancestor-half.ensures c.buddy.ensures c.is_free.ensures) (rw c.if-not-is_free.true)))

pub loop-order-preserved : goal.loop-order-preserved
loop-order-preserved c =
    let a = c.args.self.now.areas in
    let last = c.args.self.now.layout.order in
    let order = c.loop-order.order in
    let same : c.self.inside.layout.order ≡ last = ap (λ (v : BuddyValue). v.layout.order) c.self.view_is in
    rw c.loop-order.invariant (rw (join_order-on a c.args.class c.args.frame order last c.ancestor-half.result
    c.buddy.result c.is_free.result (omega (arith, c.order-last.ensures.is)) c.ancestor-half.ensures
    c.buddy.ensures c.is_free.ensures) (rw c.if-not-is_free.false))

pub ancestor-half-requires : goal.ancestor-half-requires
ancestor-half-requires c = omega (arith, c.order-last.ensures.is, c.order-last.ensures.layout.order)

pub buddy-requires : goal.buddy-requires
buddy-requires c = omega (arith, c.order-last.ensures.is, c.order-last.ensures.layout.order)

pub is_free-requires-clause-order : goal.is_free-requires-clause-order
is_free-requires-clause-order c =
    let same : c.self.inside.layout.order ≡ c.args.self.now.layout.order =
    ap (λ (v : BuddyValue). v.layout.order) c.self.view_is in
    omega (arith, c.order-last.ensures.is)

pub loop-order-init : goal.loop-order-init
loop-order-init c = rw (← c.first.view_is)

pub returns-then-not-is_free-clause-layout : goal.returns-then-not-is_free-clause-layout
returns-then-not-is_free-clause-layout c = rw (← c.self.view_is) c.order-last.ensures.layout

pub returns-clause-layout : goal.returns-clause-layout
returns-clause-layout c = rw (← c.self.view_is) c.order-last.ensures.layout

pub returns-clause-joined : goal.returns-clause-joined
returns-clause-joined c =
    let last = c.args.self.now.layout.order in
    let order = c.loop-order.order in
    let same : c.self.inside.layout.order ≡ last = ap (λ (v : BuddyValue). v.layout.order) c.self.view_is in
    let none : last - order ≡ 0 = omega (arith, c.order-last.ensures.is, c.loop-order-test.false) in
    let is : c.order-last.result ≡ order =
    omega (
      arith,
      c.order-last.ensures.is,
      c.loop-order-test.false,
      c.loop-order.auto.order-end,
      c.requires.first,
      c.first.view_is,
    ) in
    is
    ∙ sym (rw (c.loop-order.invariant, none))
