-- The records so far, and room for all.
use Rattle.std.proofs.Common.{◌≡◌, length, take}
use Rattle.std.specs.Prelude.{vec_capacity}
use Rattle.hp_explore.proofs.turns.copies.Given as goal

abbrev pub invariant-loop-record : goal.invariant-loop-record
invariant-loop-record l = record {
  copied : l.copies.items ≡ take l.record-index l.records;
  room : vec_capacity l.copies ≡ length l.records;
}
