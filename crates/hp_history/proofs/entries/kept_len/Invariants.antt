-- All tags from the place on are above the serial.
use Rattle.std.proofs.Common.{◌≡◌, ℕ, ◌<◌, ◌≤◌, length, Some, slice_get}
use Rattle.hp_units.specs.declared.marks.Tag.{Tag}
use Rattle.hp_history.specs.Entries.{tags_of}
use Rattle.hp_history.proofs.entries.kept_len.Given as goal

abbrev pub invariant-loop-keep : goal.invariant-loop-keep
invariant-loop-keep l = record {
  within : l.keep ≤ length l.entries;
  above : (i : ℕ) (t : Tag) → l.keep ≤ i → slice_get (tags_of l.before l.entries) i ≡ Some t
      → l.serial < t.serial;
}

abbrev pub decreases-loop-keep : goal.decreases-loop-keep
decreases-loop-keep l = l.keep
