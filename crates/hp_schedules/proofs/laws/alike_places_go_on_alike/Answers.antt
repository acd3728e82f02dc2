use Rattle.hp_schedules.proofs.Alike.{ends_alike}
use Rattle.hp_schedules.proofs.laws.alike_places_go_on_alike.Goals as goal

pub returns : goal.returns
returns c = ends_alike
