use Rattle.std.proofs.Common.{◌∙◌, ap}
use Rattle.hp_units.specs.Pages.{words_at}
use Rattle.hp_plain.specs.Image.{Pictured}
use Rattle.hp_plain.proofs.image.Image.words.Goals as goal

pub returns : goal.returns
returns c =
    c.words_at.ensures
    ∙ ap (λ (i : Pictured). words_at i.memory.pages c.args.owner c.args.page) c.self.view_is
