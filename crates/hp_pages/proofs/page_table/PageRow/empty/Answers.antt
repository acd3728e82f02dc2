use Rattle.std.proofs.Common.{◌∙◌, ap, map}
use Rattle.hp_pages.specs.Places.{frame_of_code}
use Rattle.hp_pages.proofs.Tables.{codes_of_none}
use Rattle.hp_pages.proofs.page_table.PageRow.empty.Goals as goal

pub returns : goal.returns
returns c = ap (map frame_of_code) c.in_ok-codes.ensures ∙ codes_of_none c.args.pages
