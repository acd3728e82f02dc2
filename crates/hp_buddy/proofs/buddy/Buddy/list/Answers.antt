use Rattle.hp_buddy.proofs.buddy.Buddy.list.Goals as goal

pub returns : goal.returns
returns c = rw (← c.self.view_is, ← c.area_list.ensures) c.list.ensures
