-- The path begins where the scripts do, so the fault is that of following it.
use Rattle.std.proofs.lemmas.Result.{err_from_is_err_and}
use Rattle.hp_parts.proofs.Ended.{led_to, unplayed}
use Rattle.hp_parts.proofs.ends.end_of.Goals as goal

pub returns-in_err-follow-clause-along : goal.returns-in_err-follow-clause-along
returns-in_err-follow-clause-along c =
    let p =
    err_from_is_err_and c.from_residual-in_err-follow.result c.from_residual-in_err-follow.ensures.1 in
    rw (p.1, p.2) (λ full. rw c.in_ok-path.ensures at (c.in_err-follow.ensures.along full))

pub returns-then-not-branch-clause-ok : goal.returns-then-not-branch-clause-ok
returns-then-not-branch-clause-ok c =
    unplayed _ _ _ c.in_ok-path.path c.follow.new.path _ c.in_ok-follow.ensures.ok c.if-not-branch.true
    (rw c.in_ok-path.ensures)

pub returns-clause-ok : goal.returns-clause-ok
returns-clause-ok c =
    led_to _ _ _ c.in_ok-path.path c.follow.new.path _ _ c.in_ok-follow.ensures.ok c.if-not-branch.false
    (rw c.in_ok-path.ensures) c.in_ok-outcome.ensures
