use Rattle.std.proofs.Common.{ℕ, ◌-◌, ◌≡◌, ◌<◌, ◌≤◌, false, length}
use Rattle.hp_units.specs.Memory.{row_of}
use Rattle.hp_units.specs.Rows.{is_claimed_by}
use Rattle.hp_pages.proofs.blocks.Blocks.next_claimed.Given as goal

abbrev pub invariant-loop-at : goal.invariant-loop-at
invariant-loop-at l = record {
  low : l.fn.first ≤ l.at;
  before : (block : ℕ) → l.fn.first ≤ block → block < l.at
      → is_claimed_by l.fn.op (row_of l.fn.self.blocks block) ≡ false;
}

abbrev pub decreases-loop-at : goal.decreases-loop-at
decreases-loop-at l = length l.rows - l.at
