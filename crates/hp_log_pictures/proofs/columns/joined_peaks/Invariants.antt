use Rattle.std.proofs.Common.{◌≡◌, ℕ, ◌*◌, ◌/◌, ◌<◌, ◌≤◌, length, get_or}
use Rattle.hp_log_pictures.proofs.columns.joined_peaks.Given as goal

abbrev pub invariant-loop-pair : goal.invariant-loop-pair
invariant-loop-pair l = record {
  length_is : length l.out.items ≡ l.pair;
  kept : (k : ℕ) → k < 2 * l.pair → get_or l.peaks k 0 ≤ get_or l.out.items (k / 2) 0;
}
