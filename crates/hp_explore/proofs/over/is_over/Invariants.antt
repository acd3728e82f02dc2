-- The scripts so far are over.
use Rattle.std.proofs.Common.{true}
use Rattle.hp_states.specs.Walks.{IsOverBelow}
use Rattle.hp_explore.proofs.over.is_over.Given as goal

abbrev pub invariant-loop-cpu : goal.invariant-loop-cpu
invariant-loop-cpu l = record { over : IsOverBelow l.path.setting l.path.news l.cpu true }
