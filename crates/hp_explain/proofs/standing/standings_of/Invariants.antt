-- The processors so far.
use Rattle.std.proofs.Common.{◌≡◌}
use Rattle.hp_explain.specs.Standings.{AreStandingsBelow}
use Rattle.hp_explain.proofs.standing.standings_of.Given as goal

abbrev pub invariant-loop-cpu : goal.invariant-loop-cpu
invariant-loop-cpu l = record {
  same : l.path ≡ l.initial.path;
  standings : AreStandingsBelow l.initial.path.setting l.seen l.initial.path.news l.cpu l.all.items;
}
