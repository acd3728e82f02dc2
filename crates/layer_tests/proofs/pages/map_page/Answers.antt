use Rattle.std.proofs.Common.{ap, ◌∙◌}
use Rattle.hp_tape.specs.Deltas.{PageFrames}
use Rattle.hp_pages.specs.Pages.{map_frame}
use Rattle.layer_tests.proofs.pages.map_page.Goals as goal

pub returns-clause-pages : goal.returns-clause-pages
returns-clause-pages c = c.map.ensures.mapped ∙ ap (λ (v : PageFrames). map_frame v 0 1 2) c.requires.pages
