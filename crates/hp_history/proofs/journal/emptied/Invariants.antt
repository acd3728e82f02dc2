-- Each turn takes a delta off the tape.
use Rattle.std.proofs.Common.{length}
use Rattle.hp_history.proofs.journal.emptied.Given as goal

abbrev pub decreases-loop : goal.decreases-loop
decreases-loop l = length l.tape.deltas
