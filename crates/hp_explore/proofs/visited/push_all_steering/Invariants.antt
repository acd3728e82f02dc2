-- The processors so far have their numbers.
use Rattle.std.proofs.Common.{◌≡◌, ◌++◌, ℕ, List}
use Rattle.hp_laws.specs.Numberings.{number_of}
use Rattle.hp_schedules.specs.Cursors.{AreCursors}
use Rattle.hp_schedules.specs.Schedules.{Setting}
use Rattle.hp_explore.specs.Aims.{AreSteered}
use Rattle.hp_explore.proofs.visited.push_all_steering.Given as goal

abbrev pub invariant-loop-cpu : goal.invariant-loop-cpu
invariant-loop-cpu l =
    (part : List ℕ) × (l.numbers.items ≡ l.initial.numbers.items ++ part)
    × ((g : Setting) → g.scripts ≡ l.scripts → AreCursors g l.news l.positions.cursors.items
    → AreSteered (number_of l.fixed l.latest) g l.cpu l.news part)
