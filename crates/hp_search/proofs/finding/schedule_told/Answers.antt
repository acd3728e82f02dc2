use Rattle.hp_search.proofs.finding.schedule_told.Goals as goal

pub returns : goal.returns
returns c =
    rw (c.calls_of.ensures, c.in-Ok.ensures.calls) at c.in_ok-text.ensures
