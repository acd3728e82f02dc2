-- What is played so far leads to the machine, and the cursors are where the scripts are then.
use Rattle.std.proofs.Common.{take}
use Rattle.hp_schedules.specs.Cursors.{AreCursors}
use Rattle.hp_explore.specs.Settings.{setting}
use Rattle.hp_explore.specs.Walks.{news_in}
use Rattle.hp_explore.proofs.Machines.{ArePlayed}
use Rattle.hp_explore.proofs.playing.play.Given as goal

abbrev pub invariant-loop-cpu : goal.invariant-loop-cpu
invariant-loop-cpu l =
    ArePlayed (setting l.machine l.scripts) (take l.cpu-index l.schedule) l.played
    × AreCursors (setting l.machine l.scripts) (news_in (setting l.machine l.scripts) l.played)
    l.positions.cursors.items
