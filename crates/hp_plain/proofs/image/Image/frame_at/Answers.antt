use Rattle.std.proofs.Common.{◌∙◌, ap}
use Rattle.hp_units.specs.Pages.{frame_at}
use Rattle.hp_plain.specs.Image.{Pictured}
use Rattle.hp_plain.proofs.image.Image.frame_at.Goals as goal

pub returns : goal.returns
returns c =
    c.frame_at.ensures
    ∙ ap (λ (i : Pictured). frame_at i.memory.pages c.args.owner c.args.page) c.self.view_is
