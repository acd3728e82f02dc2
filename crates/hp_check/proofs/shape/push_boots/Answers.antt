use Rattle.std.proofs.lemmas.List.{take_all}
use Rattle.hp_check.proofs.Added.{test_added}
use Rattle.hp_check.proofs.shape.push_boots.Goals as goal

pub loop-index-preserved : goal.loop-index-preserved
loop-index-preserved c =
    test_added _ _ _ c.index-words-index.result c.loop-index-test.true c.loop-index.invariant
    (rw (← c.index-words-index.is, ← c.boot_at.ensures, ← c.is_some-is_boot.ensures)
    c.in_ok-push_unless.ensures)

pub returns : goal.returns
returns c = rw (take_all _ _ c.loop-index-test.false) at c.loop-index.invariant
