-- Each half is a frame in no free block, as long as the block is in none.
use Rattle.std.proofs.Common.{◌≡◌, ◌<◌, ◌+◌, ◌-◌, arith, subst, sym, ◌∙◌}
use Rattle.hp_units.specs.LayoutParts.{LayoutParts}
use Rattle.hp_units.specs.Arithmetic.{frame_count}
use Rattle.hp_buddy.proofs.Calls.{IsUpper, upper, half_fits, halves_next, notes-then}
use Rattle.hp_buddy.proofs.buddy.Buddy.put_halves.Goals as goal
use Rattle.hp_buddy.proofs.buddy.Buddy.put_halves.Goals.{After-upper_half-upper}

half_below : (c : After-upper_half-upper) → c.loop-half.half - 1 < c.args.order
half_below c = omega (arith, c.order.view_is, c.last.view_is)

pub upper_half-upper-requires-clause-frame : goal.upper_half-upper-requires-clause-frame
upper_half-upper-requires-clause-frame c =
    let below : c.loop-half.half - 1 < c.args.order = omega (arith, c.order.view_is, c.last.view_is) in
    half_fits c.args.self.now.layout c.args.self.now.areas c.args.order c.args.frame (c.loop-half.half - 1)
    c.requires.layout c.requires.block below

is_upper : (c : After-upper_half-upper)
    → IsUpper c.args.self.now.layout c.loop-half.self.areas c.upper_half-upper.result
is_upper c =
    let next : c.loop-half.half ≡ c.loop-half.half - 1 + 1 = omega arith in
    upper c.args.self.now.layout c.args.self.now.areas c.loop-half.self.areas c.args.class c.args.frame
    (c.loop-half.half - 1) c.args.order c.loop-half.half c.upper_half-upper.result
    (half_below c) c.requires.block c.requires.apart next c.loop-half.invariant.areas
    c.upper_half-upper.ensures

pub push_front-requires-clause-frame : goal.push_front-requires-clause-frame
push_front-requires-clause-frame c =
    subst (λ (l : LayoutParts). c.upper_half-upper.result < frame_count l) (sym c.loop-half.invariant.layout)
    (is_upper (goal.at.push_front-requires-clause-frame c).After-upper_half-upper).inside

pub push_front-requires-clause-unfree : goal.push_front-requires-clause-unfree
push_front-requires-clause-unfree c =
    (is_upper (goal.at.push_front-requires-clause-unfree c).After-upper_half-upper).unfree

pub loop-half-preserved : goal.loop-half-preserved
loop-half-preserved c =
    let next : c.loop-half.half ≡ c.loop-half.half - 1 + 1 = omega arith in
    let below : c.loop-half.half - 1 < c.args.order = omega (arith, c.order.view_is, c.last.view_is) in
    record {
      areas =
          halves_next c.args.self.now.areas c.loop-half.self.areas c.push_front.new.self.areas c.args.class
          c.args.frame (c.loop-half.half - 1) c.args.order c.loop-half.half c.upper_half-upper.result
          below next c.loop-half.invariant.areas c.upper_half-upper.ensures c.push_front.ensures.areas;
      layout = c.push_front.ensures.layout ∙ c.loop-half.invariant.layout;
      low = omega (arith, c.last.view_is);
      notes =
          notes-then c.args.self.now.layout c.loop-half.self.layout (c.args.order - c.loop-half.half) 1
          (c.args.order - (c.loop-half.half - 1)) c.args.tape.now c.loop-half.tape c.push_front.new.tape
          c.args.self.now.areas c.loop-half.self.areas c.push_front.new.self.areas
          c.loop-half.invariant.layout (omega arith) c.loop-half.invariant.notes c.push_front.ensures.notes;
    }
