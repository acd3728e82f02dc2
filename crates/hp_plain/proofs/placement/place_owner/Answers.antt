use Rattle.std.proofs.Common.{arith}
use Rattle.hp_plain.proofs.PlacedPages.{owner_all, owner_more, owner_twice}
use Rattle.hp_plain.proofs.placement.place_owner.Goals as goal

pub returns-then-not-place_page : goal.returns-then-not-place_page
returns-then-not-place_page c =
    owner_twice c.args.layout.now c.args.pages.now c.args.owner c.loop-number.number _ _ _ _ c.requires.pages
    c.requires.owner (omega arith) c.loop-number.invariant c.frame_at-frame.ensures c.words_at.ensures
    c.if-not-place_page.ensures

pub loop-number-preserved : goal.loop-number-preserved
loop-number-preserved c =
    owner_more c.args.layout.now c.args.pages.now c.args.owner c.loop-number.number _ _ _ _ _ c.requires.pages
    c.requires.owner (omega arith) c.loop-number.invariant c.frame_at-frame.ensures c.words_at.ensures
    c.if-not-place_page.ensures

pub returns : goal.returns
returns c =
    owner_all c.args.layout.now c.args.pages.now c.args.owner c.loop-number.number _ _ c.requires.pages
    c.requires.owner (omega arith) c.loop-number.invariant
