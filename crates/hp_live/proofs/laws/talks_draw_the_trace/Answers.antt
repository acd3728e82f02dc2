use Rattle.hp_live.proofs.Drawn.{talks_draw}
use Rattle.hp_live.proofs.laws.talks_draw_the_trace.Goals as goal

pub returns : goal.returns
returns c = talks_draw c.live_rows_are_the_trace.ensures
