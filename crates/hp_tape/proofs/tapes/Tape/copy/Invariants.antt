-- The deltas so far, with room for all.
use Rattle.std.proofs.Common.{◌≡◌, length, take}
use Rattle.hp_tape.proofs.tapes.Tape.copy.Given as goal

abbrev pub invariant-loop-delta : goal.invariant-loop-delta
invariant-loop-delta l = record {
  same : l.copy.deltas ≡ take l.delta-index l.deltas;
  room : l.copy.room ≡ length l.deltas;
}
