-- A processor without a script has none to finish.
use Rattle.std.proofs.Common.{length, ap, arith}
use Rattle.hp_explore.specs.Paths.{PathValue}
use Rattle.hp_explore.proofs.Answered.{none_finished}
use Rattle.hp_explore.proofs.path.Path.finished.Goals as goal

pub returns-then-cpu-self : goal.returns-then-cpu-self
returns-then-cpu-self c =
    none_finished c.args.self.now.setting c.args.cpu c.args.self.now.news
    (omega (arith, c.if-cpu-self.true, ap (λ (p : PathValue). length p.setting.scripts) c.self.view_is))
