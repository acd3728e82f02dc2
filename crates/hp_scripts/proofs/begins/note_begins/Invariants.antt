use Rattle.std.proofs.Common.{◌≡◌, ◌++◌, take}
use Rattle.hp_scripts.specs.Begins.{begins_in}
use Rattle.hp_scripts.proofs.begins.note_begins.Given as goal

abbrev pub invariant-loop-record : goal.invariant-loop-record
invariant-loop-record l = l.begins.items ≡ l.fn.begins.items ++ begins_in (take l.record-index l.records)
