use Rattle.std.proofs.lemmas.Result.{err_from_is_err_and}
use Rattle.hp_parts.proofs.Ended.{filled, followed, unfollowed}
use Rattle.hp_parts.proofs.ends.follow.Goals as goal

pub returns-then-not-branch-clause-ok : goal.returns-then-not-branch-clause-ok
returns-then-not-branch-clause-ok c =
    unfollowed _ _ _ _ c.loop-cpu.path c.loop-cpu-test.true c.cpu-item.is c.loop-cpu.invariant.0
    c.loop-cpu.invariant.1 c.forward.new.self c.is_played.ensures
    (rw (c.if-not-branch.true, c.cpu.view_is) at c.in_ok-forward.ensures.ok)

pub loop-cpu-preserved : goal.loop-cpu-preserved
loop-cpu-preserved c =
    followed _ _ _ _ c.loop-cpu.path c.loop-cpu-test.true c.cpu-item.is c.loop-cpu.invariant.0
    c.loop-cpu.invariant.1 c.forward.new.self
    (rw (c.if-not-branch.false, c.cpu.view_is) at c.in_ok-forward.ensures.ok)

pub returns-in_err-forward-clause-along : goal.returns-in_err-forward-clause-along
returns-in_err-forward-clause-along c =
    let p = err_from_is_err_and c.from_residual.result c.from_residual.ensures.1 in
    rw (p.1, p.2)
    (λ full. filled _ _ _ _ c.loop-cpu.path c.loop-cpu-test.true c.cpu-item.is c.loop-cpu.invariant.0
    c.loop-cpu.invariant.1 c.is_played.ensures (rw (full, c.cpu.view_is) at c.in_err-forward.ensures.cause))
