-- All tags from the place on are the operation's own work.
use Rattle.std.proofs.Common.{◌≡◌, ℕ, ◌≤◌, length, Some, slice_get, true}
use Rattle.hp_units.specs.declared.marks.Tag.{Tag}
use Rattle.hp_units.specs.Marks.{is_work_of}
use Rattle.hp_history.specs.Entries.{tags_of}
use Rattle.hp_history.proofs.entries.sole_place.Given as goal

abbrev pub invariant-loop-place : goal.invariant-loop-place
invariant-loop-place l = record {
  within : l.place ≤ length l.entries;
  works : (i : ℕ) (t : Tag) → l.place ≤ i → slice_get (tags_of l.before l.entries) i ≡ Some t
      → is_work_of l.op t.mark ≡ true;
}

abbrev pub decreases-loop-place : goal.decreases-loop-place
decreases-loop-place l = l.place
