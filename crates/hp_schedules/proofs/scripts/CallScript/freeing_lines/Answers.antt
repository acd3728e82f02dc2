-- The lines from there on name no frames.
use Rattle.hp_schedules.proofs.Freeing.{named_within}
use Rattle.hp_schedules.proofs.scripts.CallScript.freeing_lines.Goals as goal

pub returns : goal.returns
returns c = λ frames k.
    rw (c.as_slice.ensures.value, ← c.self.view_is)
    (named_within frames c.self.inside.freeing k c.self.inside.lines.items c.self.invariant.1)
