use Rattle.std.proofs.Common.{sym, ◌∙◌}
use Rattle.std.proofs.lemmas.Bool.{false≢true}
use Rattle.hp_parts.proofs.taking.push_end.Goals as goal

pub returns-then-not-branch-clause-err : goal.returns-then-not-branch-clause-err
returns-then-not-branch-clause-err c = λ line.
    false≢true (sym c.if-not-branch.true ∙ c.in_ok-is_end.ensures.1 (rw c.count.ensures.is line))

pub returns-clause-ok : goal.returns-clause-ok
returns-clause-ok c = record {
  line = rw c.count.ensures.is at (c.in_ok-is_end.ensures.0 c.if-not-branch.false);
  is = c.in_ok-push.ensures.ok;
}
