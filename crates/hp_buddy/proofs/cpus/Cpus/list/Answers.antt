use Rattle.hp_buddy.proofs.cpus.Cpus.list.Goals as goal

pub returns : goal.returns
returns c = rw (← c.self.view_is, ← c.cpu_list.ensures) c.list.ensures
