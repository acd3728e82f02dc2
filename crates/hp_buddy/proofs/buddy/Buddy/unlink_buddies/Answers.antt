-- Each buddy is still free when its turn comes.
use Rattle.std.proofs.Common.{◌<◌, ◌≤◌, ◌+◌, ◌-◌, arith, subst, sym, ◌∙◌}
use Rattle.hp_units.specs.LayoutParts.{LayoutParts}
use Rattle.hp_units.specs.Arithmetic.{frame_count}
use Rattle.hp_buddy.proofs.Calls.{IsBuddyFree, buddy_free, buddies_next, notes-then}
use Rattle.hp_buddy.proofs.buddy.Buddy.unlink_buddies.Goals as goal
use Rattle.hp_buddy.proofs.buddy.Buddy.unlink_buddies.Goals.{After-buddy}

pub ancestor-half-requires : goal.ancestor-half-requires
ancestor-half-requires c = omega (arith, c.last.view_is, c.requires.last, c.requires.layout.order)

pub buddy-requires : goal.buddy-requires
buddy-requires c = omega (arith, c.last.view_is, c.requires.last, c.requires.layout.order)

is_buddy_free : (c : After-buddy)
    → IsBuddyFree c.args.self.now.layout c.loop-order.self.areas c.args.class c.loop-order.order
    c.buddy.result
is_buddy_free c =
    let low : c.args.first ≤ c.loop-order.order = omega (arith, c.first.view_is) in
    let below : c.loop-order.order < c.args.last = omega (arith, c.last.view_is) in
    buddy_free c.args.self.now.layout c.args.self.now.areas c.loop-order.self.areas c.args.class c.args.frame
    c.args.first c.loop-order.order c.ancestor-half.result c.buddy.result
    low (omega (arith, c.requires.last)) c.requires.frame c.ancestor-half.ensures c.buddy.ensures
    c.loop-order.invariant.areas (c.requires.free c.loop-order.order low below)

pub unlink_free-requires-clause-frame : goal.unlink_free-requires-clause-frame
unlink_free-requires-clause-frame c =
    subst (λ (l : LayoutParts). c.buddy.result < frame_count l) (sym c.loop-order.invariant.layout)
    (is_buddy_free (goal.at.unlink_free-requires-clause-frame c).After-buddy).inside

pub unlink_free-requires-clause-free : goal.unlink_free-requires-clause-free
unlink_free-requires-clause-free c =
    (is_buddy_free (goal.at.unlink_free-requires-clause-free c).After-buddy).free

pub loop-order-preserved : goal.loop-order-preserved
loop-order-preserved c =
    let low : c.args.first ≤ c.loop-order.order = omega (arith, c.first.view_is) in
    record {
      areas =
          buddies_next c.args.self.now.areas c.loop-order.self.areas c.unlink_free.new.self.areas c.args.class
          c.args.frame c.args.first c.loop-order.order c.ancestor-half.result c.buddy.result
          low c.ancestor-half.ensures c.buddy.ensures c.loop-order.invariant.areas
          c.unlink_free.ensures.areas;
      layout = c.unlink_free.ensures.layout ∙ c.loop-order.invariant.layout;
      notes =
          notes-then c.args.self.now.layout c.loop-order.self.layout (c.loop-order.order - c.args.first) 1
          (c.loop-order.order + 1 - c.args.first) c.args.tape.now c.loop-order.tape c.unlink_free.new.tape
          c.args.self.now.areas c.loop-order.self.areas c.unlink_free.new.self.areas
          c.loop-order.invariant.layout (omega arith) c.loop-order.invariant.notes
          c.unlink_free.ensures.notes;
    }
