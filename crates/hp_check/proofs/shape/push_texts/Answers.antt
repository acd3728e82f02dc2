use Rattle.std.proofs.lemmas.List.{take_all}
use Rattle.hp_check.proofs.Added.{test_added}
use Rattle.hp_check.proofs.shape.push_texts.Goals as goal

pub loop-index-preserved : goal.loop-index-preserved
loop-index-preserved c =
    test_added _ _ _ c.index-texts-index.result c.loop-index-test.true c.loop-index.invariant
    (rw (← c.index-texts-index.is, ← c.is_string-is_text.ensures) c.in_ok-push_unless.ensures)

pub returns : goal.returns
returns c = rw (take_all _ _ c.loop-index-test.false) at c.loop-index.invariant
