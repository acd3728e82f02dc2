use Rattle.std.proofs.Common.{arith}
use Rattle.hp_units.specs.declared.rows.Pool.TheVariants.{Nm as NmPool, Mm as MmPool}
use Rattle.hp_units.specs.ProcessorLists.{take_one}
use Rattle.hp_tape.specs.Bounds.{take_one_bound}
use Rattle.hp_buddy.proofs.Undoes.{take-few}
use Rattle.hp_layers.specs.Frames.{free_of, normal_frame}
use Rattle.hp_layers.proofs.Taken.{IsListEmpty, list-empty, list-room, then-taken}
use Rattle.hp_layers.proofs.frames.Frames.page_frame.Goals as goal
use Rattle.hp_layers.proofs.frames.Frames.page_frame.Goals.{In-None}

none : (c : In-None)
    → IsListEmpty c.args.self.now c.take_one.new.self c.args.tape.now c.take_one.new.tape c.args.cpu MmPool
none c = list-empty c.in-None.is c.take_one.ensures

pub normal_frame-requires-clause-layout : goal.normal_frame-requires-clause-layout
normal_frame-requires-clause-layout c =
    rw ((none (goal.at.normal_frame-requires-clause-layout c).In-None).same) c.requires.layout

pub normal_frame-requires-clause-room : goal.normal_frame-requires-clause-room
normal_frame-requires-clause-room c =
    list-room _ _ _ _ _ MmPool NmPool (none (goal.at.normal_frame-requires-clause-room c).In-None)
    c.requires.room

pub returns-in-None : goal.returns-in-None
returns-in-None c =
    let f = c.args.self.now in
    let empty = none (goal.at.returns-in-None c).In-None in
    then-taken (take_one f.cpus.layout (free_of f) c.args.cpu MmPool) (λ g. normal_frame g.cpus.layout
    (free_of g) c.args.cpu) 0 0 (λ g. take_one_bound g.cpus.layout (free_of g) c.args.cpu NmPool) f
    c.take_one.new.self c.normal_frame.new.self c.args.tape.now c.take_one.new.tape c.normal_frame.new.tape
    (take_one_bound f.cpus.layout (free_of f) c.args.cpu MmPool) c.normal_frame.result
    (let few = take-few f.cpus.layout (free_of f) c.args.cpu NmPool in omega (arith, few, empty.bound))
    (empty.first 0) c.normal_frame.ensures
