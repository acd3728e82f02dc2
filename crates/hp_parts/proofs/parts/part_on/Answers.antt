use Rattle.std.proofs.Common.{List, length, subst}
use Rattle.hp_schedules.specs.declared.scripts.Step.{Step}
use Rattle.std.proofs.lemmas.Result.{err_from_is_err_and}
use Rattle.hp_explore.specs.Settings.{setting}
use Rattle.hp_search.specs.Prepared.{setting_of}
use Rattle.hp_parts.specs.Parts.{ArePartEnds, IsCallsFor}
use Rattle.hp_parts.proofs.Parted.{part_cause, part_explored}
use Rattle.hp_parts.proofs.parts.part_on.Given.{Over}
use Rattle.hp_parts.proofs.parts.part_on.Goals as goal
use Rattle.hp_parts.proofs.parts.part_on.Goals.{After-calls_for-calls}

by_calls : (g : Over) (c : After-calls_for-calls g)
    → IsCallsFor (length c.args.prepared.now.start.scripts.items) c.args.number.of c.calls_for-calls.result
by_calls g c =
    rw (← c.as_slice-scripts.ensures.value, ← c.of.ensures) (record {
      one = c.calls_for-calls.ensures.one;
      alone = c.calls_for-calls.ensures.alone;
      enough = c.calls_for-calls.ensures.enough;
      fewest = c.calls_for-calls.ensures.fewest;
    })

pub returns-clause-ok : goal.returns-clause-ok
returns-clause-ok g c =
    let p = c.args.prepared.now in
    let x = c.in_ok-explored.explored in
    let e = c.in_ok-explored.ensures in
    let told = c.in-Ok.ensures.ok in
    record {
      calls = c.calls_for-calls.result;
      ends = x.ends.items;
      more = told.0;
      by = by_calls g (goal.at.returns-clause-ok g c).After-calls_for-calls;
      are =
          rw (← c.part.ensures)
          (subst (λ (ss : List (List Step)). ArePartEnds (setting p.start.machine ss) c.part.result
          c.args.limit (g.W.Watch.has_ended c.explore_part.new.watch) x.ends.items told.0)
          c.as_slice-scripts.ensures.value
          (part_explored _ _ _ _ x _ e.ok e.few e.room e.first e.many e.stopped
          (rw c.as_slice-scripts.ensures.value told.1)));
      ordered = e.ordered;
      within = e.within;
      told = rw (← c.of-2.ensures, ← c.number.ensures) told.2;
      is_found = told.3;
    }

pub returns-in_err-explored-clause-err : goal.returns-in_err-explored-clause-err
returns-in_err-explored-clause-err g c =
    let is = err_from_is_err_and c.from_residual.result c.from_residual.ensures.1 in
    rw (is.1, is.2)
    (part_cause _ _ (setting_of c.args.prepared.now) _ _
    (by_calls g (goal.at.returns-in_err-explored-clause-err g c).After-calls_for-calls)
    (rw (← c.part.ensures, ← c.as_slice-scripts.ensures.value) c.in_err-explored.ensures.full))
