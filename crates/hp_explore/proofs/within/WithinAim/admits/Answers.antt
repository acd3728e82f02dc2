-- No end can be as wanted there.
use Rattle.std.proofs.Common.{sym, ◌∙◌}
use Rattle.hp_explore.proofs.Budgets.{lost_skipped}
use Rattle.hp_explore.proofs.within.WithinAim.admits.Goals as goal

pub returns-then-is_lost-clause-skipped : goal.returns-then-is_lost-clause-skipped
returns-then-is_lost-clause-skipped c =
    λ told.
    let p = c.args.path.now in
    let wanted = c.args.self.now.wanted.now in
    rw c.requires.schedule (lost_skipped p.setting wanted c.args.self.now.budget p.news
    (sym c.is_some.ensures ∙ c.if-is_some.true) c.is_played.ensures
    (rw (← c.requires.processors) (rw c.records.ensures at (c.is_lost.ensures c.if-is_lost.true
    p.setting.layout.cpus p.setting.scripts))))
