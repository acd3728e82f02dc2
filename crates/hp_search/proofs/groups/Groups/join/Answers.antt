-- The group at its place counts so many more.
use Rattle.hp_schedules.proofs.Shares.{put_at}
use Rattle.hp_search.proofs.groups.Groups.join.Goals as goal

pub returns-clause-added : goal.returns-clause-added
returns-clause-added c =
    rw (← c.self.view_is)
    (put_at c.self.inside.ends.items c.args.place c.args.count c.index_mut-group.result.now
    (rw (← c.self.view_is) at c.requires.place) c.index_mut-group.ensures.value)
