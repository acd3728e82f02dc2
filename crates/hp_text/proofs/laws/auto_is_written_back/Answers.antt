use Rattle.hp_text.proofs.WrittenBack.{written_back}
use Rattle.hp_text.proofs.laws.auto_is_written_back.Goals as goal

pub returns : goal.returns
returns c = written_back
