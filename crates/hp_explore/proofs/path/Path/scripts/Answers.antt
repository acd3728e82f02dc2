-- They are those of the setting.
use Rattle.std.proofs.Common.{ap}
use Rattle.hp_explore.specs.Paths.{PathValue}
use Rattle.hp_explore.proofs.path.Path.scripts.Goals as goal

pub returns : goal.returns
returns c = ap (λ (p : PathValue). p.setting.scripts) c.self.view_is
