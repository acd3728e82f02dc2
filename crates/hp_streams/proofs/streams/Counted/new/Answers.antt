use Rattle.std.proofs.Common.{rules}
use Rattle.hp_streams.proofs.streams.Counted.new.Goals as goal

pub returns : goal.returns
returns g c = search rules
