use Rattle.std.proofs.Common.{◌≡◌, take}
use Rattle.hp_history.proofs.records.copy_records.Given as goal

abbrev pub invariant-loop-record : goal.invariant-loop-record
invariant-loop-record l = l.copy.items ≡ take l.record-index l.records
