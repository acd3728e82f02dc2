-- The search goes on by an aim that the first one became, and has fewer steps left after each.
use Rattle.std.proofs.Common.{◌≡◌}
use Rattle.hp_schedules.specs.Schedules.{schedule_of}
use Rattle.hp_explore.specs.Searches.{IsTrying, turns_at}
use Rattle.hp_explore.specs.Settings.{setting}
use Rattle.hp_explore.proofs.searching.first_sought.Given as goal

abbrev pub decreases-turns : goal.decreases-turns
decreases-turns g l = turns_at 0 l.search.path l.search.next

abbrev pub invariant-turns : goal.invariant-turns
invariant-turns g l = record {
  schedule : l.search.schedule ≡ schedule_of l.search.path.news;
  trying : IsTrying (g.A.Aim.shows l.aim (setting l.machine l.scripts)) 0 l.search.path l.search.next
      l.search.visited;
  same : l.search.path.setting ≡ setting l.machine l.scripts;
  becomes : g.A.Aim.becomes l.fn.aim (setting l.machine l.scripts) l.aim;
}
