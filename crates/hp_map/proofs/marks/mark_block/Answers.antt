use Rattle.hp_map.proofs.marks.mark_block.Goals as goal

pub returns-in-Some : goal.returns-in-Some
returns-in-Some c =
    rw (c.in-Some.is, ← c.size_of.ensures) c.mark_frames.ensures
