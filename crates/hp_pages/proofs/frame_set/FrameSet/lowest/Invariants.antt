use Rattle.std.proofs.Common.{ℕ, ◌-◌, ◌≡◌, ◌<◌, ◌≤◌, false}
use Rattle.hp_pages.specs.FrameSets.{has}
use Rattle.hp_pages.proofs.frame_set.FrameSet.lowest.Given as goal

abbrev pub invariant-loop-at : goal.invariant-loop-at
invariant-loop-at l = record {
  low : l.first ≤ l.at;
  before : (n : ℕ) → l.first ≤ n → n < l.at → has l.self-inside.words.items n ≡ false;
}

abbrev pub decreases-loop-at : goal.decreases-loop-at
decreases-loop-at l = l.past - l.at
