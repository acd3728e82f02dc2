-- The lengths so far, and room for all.
use Rattle.std.proofs.Common.{◌≡◌, length, take}
use Rattle.std.specs.Prelude.{vec_capacity}
use Rattle.hp_schedules.specs.Interleavings.{script_lengths}
use Rattle.hp_schedules.proofs.multinomials.lengths.Given as goal

abbrev pub invariant-loop-script : goal.invariant-loop-script
invariant-loop-script l = record {
  told : l.lengths.items ≡ script_lengths (take l.script-index l.scripts);
  room : vec_capacity l.lengths ≡ length l.scripts;
}
