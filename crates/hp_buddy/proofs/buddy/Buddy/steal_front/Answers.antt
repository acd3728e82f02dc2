-- Below the greatest order the block keeps its mobility; a whole pageblock takes the one wanted.
use Rattle.std.proofs.Common.{◌+◌, ◌-◌, arith}
use Rattle.hp_buddy.proofs.Calls.{taken_frame, notes-then}
use Rattle.hp_buddy.proofs.buddy.Buddy.steal_front.Goals as goal

pub set_mobility-requires-clause-frame : goal.set_mobility-requires-clause-frame
set_mobility-requires-clause-frame c =
    taken_frame c.args.self.now.layout c.take_front-2.new.self.layout c.args.self.now.areas
    c.usable-from.result c.usable-rest.result c.args.order c.args.wanted
    (record { areas = c.take_front-2.new.self.areas; frame = c.in-Some.frame }) c.requires.apart
    c.requires.order c.requires.wanted c.in-Some.ensures.layout c.in-Some.ensures.taken

pub returns-in-Some-clause-notes : goal.returns-in-Some-clause-notes
returns-in-Some-clause-notes c =
    notes-then c.args.self.now.layout c.take_front-2.new.self.layout (c.args.order - c.args.wanted + 1) 1
    (c.args.order - c.args.wanted + 2) c.args.tape.now c.take_front-2.new.tape c.set_mobility.new.tape
    c.args.self.now.areas c.take_front-2.new.self.areas c.set_mobility.new.self.areas c.in-Some.ensures.layout
    (omega arith) c.in-Some.ensures.notes c.set_mobility.ensures.notes
