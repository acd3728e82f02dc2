use Rattle.hp_trace.proofs.LivesTraced.{shown_is_traced}
use Rattle.hp_trace.proofs.live.live_rows_are_the_trace.Goals as goal

pub returns : goal.returns
returns c = shown_is_traced
