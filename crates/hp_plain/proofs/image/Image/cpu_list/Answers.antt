use Rattle.std.proofs.Common.{◌∙◌, ap}
use Rattle.hp_units.specs.Memory.{cached_list}
use Rattle.hp_plain.specs.Image.{Pictured}
use Rattle.hp_plain.proofs.image.Image.cpu_list.Goals as goal

pub returns : goal.returns
returns c =
    c.cached_list.ensures
    ∙ ap (λ (i : Pictured). cached_list i.memory.free c.args.cpu c.args.pool) c.self.view_is
