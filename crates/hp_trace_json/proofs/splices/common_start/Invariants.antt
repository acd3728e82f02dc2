use Rattle.std.proofs.Common.{◌≡◌, take}
use Rattle.hp_trace_json.proofs.splices.common_start.Given as goal

abbrev pub invariant-loop-at : goal.invariant-loop-at
invariant-loop-at l = take l.at l.was ≡ take l.at l.now
