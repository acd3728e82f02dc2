use Rattle.std.proofs.Common.{◌≤◌, length}
use Rattle.hp_logs.proofs.ftrace.after_processor.Given as goal

abbrev pub invariant-loop-bracket : goal.invariant-loop-bracket
invariant-loop-bracket l = length l.rest ≤ length l.line
