-- No line from here on frees the frame of an earlier KernelAlloc.
use Rattle.std.proofs.Common.{◌≡◌, true, drop}
use Rattle.std.specs.List.{list_all}
use Rattle.hp_schedules.specs.Scripts.{names_no_frame}
use Rattle.hp_schedules.proofs.scripts.freeing_count.Given as goal

abbrev pub invariant-loop-place : goal.invariant-loop-place
invariant-loop-place l = list_all names_no_frame (drop l.place l.lines) ≡ true
