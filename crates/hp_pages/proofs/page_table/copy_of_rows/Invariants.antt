use Rattle.std.proofs.Common.{◌≡◌, take}
use Rattle.hp_pages.proofs.page_table.copy_of_rows.Given as goal

abbrev pub invariant-loop-row : goal.invariant-loop-row
invariant-loop-row l = l.copy.items ≡ take l.row-index l.rows
