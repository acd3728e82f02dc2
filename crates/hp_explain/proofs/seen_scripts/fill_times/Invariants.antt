use Rattle.hp_explain.proofs.TimesFilled.{IsFilledFrom}
use Rattle.hp_explain.proofs.seen_scripts.fill_times.Given as goal

abbrev pub invariant-loop-passed : goal.invariant-loop-passed
invariant-loop-passed l = IsFilledFrom l.fn.lines l.lines l.passed l.later
