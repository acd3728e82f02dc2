use Rattle.std.proofs.Common.{ℕ, ◌+◌, ◌-◌, ◌≡◌, ◌<◌, ◌≤◌, slice_index}
use Rattle.hp_pages.proofs.frame_set.FrameSet.skip_empty.Given as goal

abbrev pub invariant-loop-at : goal.invariant-loop-at
invariant-loop-at l = record {
  low : l.first ≤ l.at;
  most : l.at ≤ l.first + l.past;
  empty : (k : ℕ) → l.first ≤ k → k < l.at → slice_index l.self-inside.words.items k ≡ 0;
}

abbrev pub decreases-loop-at : goal.decreases-loop-at
decreases-loop-at l = l.past - l.at
