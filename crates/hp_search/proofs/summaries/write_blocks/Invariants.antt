-- The text so far begins with what was there.
use Rattle.std.proofs.Common.{string_bytes}
use Rattle.hp_search.specs.Summaries.{Continues}
use Rattle.hp_search.proofs.summaries.write_blocks.Given as goal

abbrev pub invariant-loop-place : goal.invariant-loop-place
invariant-loop-place l = Continues (string_bytes l.fn.out) (string_bytes l.out)
