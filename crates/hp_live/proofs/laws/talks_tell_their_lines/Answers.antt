use Rattle.hp_live.proofs.Talked.{talks_tell}
use Rattle.hp_live.proofs.laws.talks_tell_their_lines.Goals as goal

pub returns : goal.returns
returns c = talks_tell
