-- One processor more.
use Rattle.std.proofs.Common.{◌∙◌}
use Rattle.hp_explain.proofs.Stood.{stand_more}
use Rattle.hp_explain.proofs.standing.standings_of.Goals as goal

pub loop-cpu-preserved : goal.loop-cpu-preserved
loop-cpu-preserved c =
    let more = c.in_ok-push_standing.ensures.more in record {
      same = c.push_standing.ensures.same ∙ c.loop-cpu.invariant.same;
      standings = rw more.1
          (stand_more _ _ _ _ _ more.0 c.loop-cpu.invariant.standings
          (rw (← c.loop-cpu.invariant.same) more.2));
    }
