-- The search is one of the question, and has fewer steps left after each.
use Rattle.std.proofs.Common.{◌≡◌, None}
use Rattle.hp_schedules.specs.Schedules.{schedule_of}
use Rattle.hp_explore.specs.PathKeys.{ArePathKeys}
use Rattle.hp_explore.specs.Searches.{IsTrying, turns_at}
use Rattle.hp_explore.specs.Withins.{aim_within}
use Rattle.hp_explore.proofs.absent.are_all_done.Given as goal

abbrev pub decreases-turns : goal.decreases-turns
decreases-turns g l = turns_at l.seed l.search.path l.search.next

abbrev pub invariant-turns : goal.invariant-turns
invariant-turns g l = record {
  schedule : l.search.schedule ≡ schedule_of l.search.path.news;
  trying : IsTrying (aim_within l.search.path.setting l.aim.wanted.now l.aim.budget) l.seed l.search.path
      l.search.next l.search.visited;
  kept : (l.search.path.setting ≡ g.Q.Question.setting) × (l.aim.wanted.now ≡ g.Q.Question.wanted)
      × (l.aim.budget ≡ None)
      × ArePathKeys g.Q.Question.setting (aim_within g.Q.Question.setting g.Q.Question.wanted None)
      l.search.path.news l.places.keys;
}
