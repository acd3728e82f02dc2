use Rattle.std.specs.Prelude.{slice_get}
use Rattle.std.proofs.Common.{◌∙◌, ap}
use Rattle.hp_plain.specs.Image.{Pictured}
use Rattle.hp_plain.proofs.image.Image.row.Goals as goal

pub returns : goal.returns
returns c =
    c.row.ensures ∙ ap (λ (i : Pictured). slice_get i.memory.blocks.rows c.args.block) c.self.view_is
