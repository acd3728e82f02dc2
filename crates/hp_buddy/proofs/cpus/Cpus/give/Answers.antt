use Rattle.hp_tape.specs.Bounds.{give_bound}
use Rattle.hp_buddy.proofs.Besides.{notes-beside}
use Rattle.hp_buddy.proofs.cpus.Cpus.give.Goals as goal

pub returns-clause-notes : goal.returns-clause-notes
returns-clause-notes c =
    notes-beside c.args.self.now.layout (give_bound c.args.self.now.layout) c.args.tape.now c.give.new.tape
    c.args.self.now.cached c.give.new.self.areas c.args.buddy.now.areas
    (rw (← c.requires.together.layout) c.give.ensures.notes)
