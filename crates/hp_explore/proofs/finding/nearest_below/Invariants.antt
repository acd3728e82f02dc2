-- No schedule that ends as wanted has fewer changes.
use Rattle.hp_explore.specs.Settings.{setting}
use Rattle.hp_explore.specs.Reaching.{NeedsChanges}
use Rattle.hp_explore.proofs.finding.nearest_below.Given as goal

abbrev pub invariant-loop-budget : goal.invariant-loop-budget
invariant-loop-budget o l = record { needs : NeedsChanges (setting l.machine l.scripts) l.wanted l.budget }
