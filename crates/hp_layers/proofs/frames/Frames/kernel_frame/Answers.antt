use Rattle.std.proofs.Common.{arith}
use Rattle.hp_units.specs.FreeAreas.{steal_block}
use Rattle.hp_units.specs.declared.rows.Mobility.TheVariants.{Unmovable}
use Rattle.hp_units.specs.declared.rows.Pool.TheVariants.{Nu as NuPool}
use Rattle.hp_units.specs.ProcessorLists.{handed_from, take_one}
use Rattle.hp_tape.specs.Bounds.{steal_bound, take_one_bound}
use Rattle.hp_layers.specs.Frames.{free_of}
use Rattle.hp_layers.proofs.Taken.{IsListEmpty, list-empty, steal-few, steal-room, then-taken}
use Rattle.hp_layers.proofs.frames.Frames.kernel_frame.Goals as goal
use Rattle.hp_layers.proofs.frames.Frames.kernel_frame.Goals.{In-None}

none : (c : In-None)
    → IsListEmpty c.args.self.now c.take_one.new.self c.args.tape.now c.take_one.new.tape c.args.cpu NuPool
none c = list-empty c.in-None.is c.take_one.ensures

pub steal-requires-clause-room : goal.steal-requires-clause-room
steal-requires-clause-room c =
    steal-room c.requires.layout (none (goal.at.steal-requires-clause-room c).In-None) c.requires.room

pub returns-in-None : goal.returns-in-None
returns-in-None c =
    let f = c.args.self.now in
    let empty = none (goal.at.returns-in-None c).In-None in
    then-taken (take_one f.cpus.layout (free_of f) c.args.cpu NuPool) (λ g. handed_from (free_of g)
    (steal_block g.cpus.layout g.buddy.areas Unmovable 0)) 0 0 (λ g. steal_bound g.cpus.layout) f
    c.take_one.new.self c.steal.new.self c.args.tape.now c.take_one.new.tape c.steal.new.tape
    (take_one_bound f.cpus.layout (free_of f) c.args.cpu NuPool) c.steal.result
    (let few = steal-few f.cpus.layout c.requires.layout in omega (arith, few, empty.bound)) (empty.first 0)
    c.steal.ensures
