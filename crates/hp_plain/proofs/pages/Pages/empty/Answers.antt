use Rattle.hp_plain.proofs.pages.Pages.empty.Goals as goal

pub returns : goal.returns
returns c =
    rw (c.in_ok-table.ensures, c.owners.ensures.is, c.pages.ensures.is, c.in_ok-contents.ensures)
    (rw (c.owners-2.ensures.is, c.pages-2.ensures.is))
