use Rattle.hp_search.proofs.prepared.Prepared.replay_told.Goals as goal

pub returns-clause-ok : goal.returns-clause-ok
returns-clause-ok c =
    rw (c.calls_of.ensures, c.in_ok-played.ensures.calls) at c.in_ok-text.ensures
