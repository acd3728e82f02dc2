-- The place is that of the end with the outcome.
use Rattle.hp_parts.proofs.merged_ends.MergedEnds.add_end.Goals as goal

pub add_at-requires-clause-at : goal.add_at-requires-clause-at
add_at-requires-clause-at c = rw (c.as_slice.ensures.value, c.self.view_is) at c.in-Some.ensures.some
