use Rattle.std.proofs.Common.{◌≡◌, take}
use Rattle.hp_plain.proofs.pages.copy_of_table.Given as goal

abbrev pub invariant-loop-frames : goal.invariant-loop-frames
invariant-loop-frames l = l.copy.items ≡ take l.frames-index l.table
