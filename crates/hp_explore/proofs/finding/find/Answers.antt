-- A thread came to the end, so no schedule ends as wanted.
use Rattle.hp_explore.proofs.finding.find.Goals as goal

pub returns-then-is_absent-clause-ok : goal.returns-then-is_absent-clause-ok
returns-then-is_absent-clause-ok g c = λ s reaches. (c.is_absent.ensures c.if-is_absent.true).0 s reaches
