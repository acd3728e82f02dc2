use Rattle.std.proofs.lemmas.List.{take_all}
use Rattle.hp_check.proofs.Added.{of_test, test_added}
use Rattle.hp_check.proofs.shape.push_missing.Goals as goal

pub loop-key-preserved : goal.loop-key-preserved
loop-key-preserved c =
    test_added _ _ _ _ c.loop-key-test.true c.loop-key.invariant
    (of_test c.is_there-is_there.ensures c.in_ok-push_unless.ensures)

pub returns : goal.returns
returns c = rw (take_all _ _ c.loop-key-test.false, c.keys_of-keys.ensures) at c.loop-key.invariant
