use Rattle.std.proofs.Common.{◌≡◌, ◌-◌, drop, length}
use Rattle.hp_trace_json.proofs.splices.common_end.Given as goal

abbrev pub invariant-loop-end : goal.invariant-loop-end
invariant-loop-end l = drop (length l.was - l.end) l.was ≡ drop (length l.now - l.end) l.now
