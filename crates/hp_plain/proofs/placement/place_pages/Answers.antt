use Rattle.std.proofs.Common.{arith, [], get_or, refl}
use Rattle.hp_plain.proofs.Counting.{so_far_more}
use Rattle.hp_plain.proofs.PlacedPages.{pages_all, pages_twice}
use Rattle.hp_plain.proofs.placement.place_pages.Goals as goal

pub returns-then-not-place_owner : goal.returns-then-not-place_owner
returns-then-not-place_owner c =
    pages_twice c.args.layout.now c.args.pages.now c.loop-owner.owner _ _ c.requires (omega arith)
    c.loop-owner.invariant c.if-not-place_owner.ensures

pub loop-owner-preserved : goal.loop-owner-preserved
loop-owner-preserved c =
    so_far_more c.loop-owner.invariant (get_or c.args.pages.now.table c.loop-owner.owner []) (omega arith)
    refl c.if-not-place_owner.ensures.0 c.if-not-place_owner.ensures.1

pub returns : goal.returns
returns c =
    pages_all c.args.layout.now c.args.pages.now c.loop-owner.owner _ _ c.requires (omega arith)
    c.loop-owner.invariant
