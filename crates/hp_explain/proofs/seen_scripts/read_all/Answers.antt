-- One more line.
use Rattle.std.proofs.Common.{arith, sym, ◌∙◌}
use Rattle.hp_explain.proofs.ObjectsTaken.{taken_all, taken_empty, taken_more}
use Rattle.hp_explain.proofs.seen_scripts.read_all.Goals as goal

pub loop-index-preserved-then-is_empty : goal.loop-index-preserved-then-is_empty
loop-index-preserved-then-is_empty c =
    taken_empty _ _ _ _ _ (omega arith) (sym c.is_empty.ensures ∙ c.if-is_empty.true) c.loop-index.invariant

pub loop-index-preserved : goal.loop-index-preserved
loop-index-preserved c =
    taken_more _ _ _ _ _ _ (omega arith) (sym c.is_empty.ensures ∙ c.if-is_empty.false)
    c.in_ok-take_line.ensures c.loop-index.invariant

pub returns-clause-seen : goal.returns-clause-seen
returns-clause-seen c =
    taken_all (λ v. v.items) _ _ _ _ _ (omega arith) c.loop-index.invariant c.scripts_of.ensures.filled
