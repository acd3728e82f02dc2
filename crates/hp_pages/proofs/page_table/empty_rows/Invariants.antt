use Rattle.std.proofs.Common.{◌≡◌, replicate, None}
use Rattle.hp_pages.proofs.page_table.empty_rows.Given as goal

abbrev pub invariant-loop-owner : goal.invariant-loop-owner
invariant-loop-owner l = l.rows.items ≡ replicate l._owner (replicate l.pages None)
