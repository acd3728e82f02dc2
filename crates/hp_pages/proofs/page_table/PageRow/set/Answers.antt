use Rattle.std.proofs.lemmas.List.{map-set}
use Rattle.hp_pages.specs.Places.{frame_of_code}
use Rattle.hp_pages.proofs.page_table.PageRow.set.Goals as goal

pub returns : goal.returns
returns c =
    rw (map-set frame_of_code c.self.inside.codes.items c.page.inside.0 c.code_of.result)
    (rw (c.page.view_is, c.code_of.ensures, c.self.view_is))
