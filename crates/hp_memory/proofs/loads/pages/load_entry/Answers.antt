use Rattle.std.proofs.Common.{sym, ◌∙◌}
use Rattle.hp_memory.proofs.Pages.{page-frame}
use Rattle.hp_memory.proofs.loads.pages.load_entry.Goals as goal

pub back-requires-clause-numbers : goal.back-requires-clause-numbers
back-requires-clause-numbers c =
    rw c.of_page.ensures (rw c.requires.layout (
      c.requires.owner,
      c.requires.page,
      page-frame c.args.owner
          c.args.page c.in-Some.frame c.requires.limits c.requires.placed
          (sym c.frame_at.ensures ∙ c.in-Some.is),
      tt,
    ))
