use Rattle.std.proofs.Common.{◌∙◌, rules}
use Rattle.hp_streams.proofs.Known.{Appends-more, within_end}
use Rattle.hp_streams.proofs.writing.write_all.Goals as goal

pub loop-at-preserved : goal.loop-at-preserved
loop-at-preserved g c = record {
  kept = Appends-more _ _ _ _ _ _ c.loop-at.invariant.kept c.in_ok-at.ensures.bytes;
  same = c.in_ok-at.ensures.ok ∙ c.loop-at.invariant.same;
  within = within_end _ _ _ c.loop-at.invariant.within c.in_ok-at.ensures.bound.0;
}

pub returns-in_err-at-clause-ok : goal.returns-in_err-at-clause-ok
returns-in_err-at-clause-ok g c = search rules

pub returns-in_err-at-clause-err : goal.returns-in_err-at-clause-err
returns-in_err-at-clause-err g c = search rules

pub returns-clause-err : goal.returns-clause-err
returns-clause-err g c = search rules
