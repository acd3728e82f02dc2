-- The same replies and the same rows.
use Rattle.hp_schedules.proofs.outcomes.Outcome.copy.Goals as goal

pub returns : goal.returns
returns c =
    rw (
      c.in_ok-replies.ensures,
      c.as_slice.ensures.value,
      c.in_ok-extend_from_slice.ensures.items,
      c.new-blocks.ensures.items,
      c.as_slice-2.ensures.value,
    ) c.self.view_is
