use Rattle.hp_states.specs.Numbered.{entry_below, in_front}
use Rattle.hp_states.proofs.Numberings.{first_list}
use Rattle.hp_states.proofs.openings.Openings.empty.Goals as goal

pub returns : goal.returns
returns c =
    rw c.self.view_is at (first_list entry_below in_front c.self.inside.entries.items)
