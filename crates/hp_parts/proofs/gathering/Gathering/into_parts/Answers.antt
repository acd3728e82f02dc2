use Rattle.hp_parts.proofs.gathering.Gathering.into_parts.Goals as goal

pub returns : goal.returns
returns c = rw (← c.self.view_is, c.push_reserved.ensures.items, c.reserve.ensures.items)
