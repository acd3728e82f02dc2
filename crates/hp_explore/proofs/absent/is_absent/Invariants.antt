-- The question is that of these scripts and lines.
use Rattle.hp_explore.specs.Settings.{setting}
use Rattle.hp_explore.proofs.absent.is_absent.Given as goal

abbrev pub ghosts-is_over_in_one : goal.ghosts-is_over_in_one
ghosts-is_over_in_one g a = record { setting = setting a.machine.now a.scripts.now; wanted = a.wanted.now }
