use Rattle.std.proofs.Common.{ap}
use Rattle.hp_units.specs.Memory.{free_list}
use Rattle.hp_plain.specs.Image.{Pictured}
use Rattle.hp_plain.proofs.image.Image.list.Goals as goal

pub returns : goal.returns
returns c =
    rw (c.free_list.ensures, c.areas.ensures)
    (ap (λ (i : Pictured). free_list i.memory.free.areas c.args.class c.args.order) c.self.view_is)
