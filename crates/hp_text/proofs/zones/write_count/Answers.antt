use Rattle.hp_text.proofs.Aligned.{numeral_aligned}
use Rattle.hp_text.proofs.zones.write_count.Goals as goal
use Rattle.hp_text.specs.Zones.{count_text}

pub returns : goal.returns
unfolding count_text
returns c = let h = rw c.laid_out.ensures at c.write.ensures.bytes in rw numeral_aligned at h
