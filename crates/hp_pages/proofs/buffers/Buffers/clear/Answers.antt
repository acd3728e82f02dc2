use Rattle.hp_pages.proofs.buffers.Buffers.clear.Goals as goal

pub returns : goal.returns
returns c = rw (c.frame.view_is, c.self.view_is)
