-- What the records so far tell.
use Rattle.std.proofs.Common.{◌≡◌, true, take}
use Rattle.std.specs.Prelude.{fold}
use Rattle.hp_schedules.specs.Alike.{closed_after}
use Rattle.hp_schedules.proofs.closed.is_closed.Given as goal

abbrev pub invariant-loop-record : goal.invariant-loop-record
invariant-loop-record l = l.closed ≡ fold closed_after true (take l.record-index l.history)
