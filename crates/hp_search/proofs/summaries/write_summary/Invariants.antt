-- The lines of the ends so far.
use Rattle.std.proofs.Common.{string_bytes, take}
use Rattle.hp_search.specs.Summaries.{WritesLines}
use Rattle.hp_search.specs.Words.{counts_text}
use Rattle.std.proofs.Common.{◌++◌}
use Rattle.hp_search.proofs.summaries.write_summary.Given as goal

abbrev pub invariant-loop-index : goal.invariant-loop-index
invariant-loop-index l =
    WritesLines (take l.index l.ends) (string_bytes l.fn.out ++ counts_text l.ends l.fn.more)
    (string_bytes l.out)
