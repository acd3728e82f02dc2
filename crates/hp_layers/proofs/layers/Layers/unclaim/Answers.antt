use Rattle.std.proofs.Common.{None}
use Rattle.hp_units.specs.Memory.{row_of}
use Rattle.hp_layers.proofs.Releases.{row-set}
use Rattle.hp_layers.proofs.layers.Layers.unclaim.Goals as goal

pub returns : goal.returns
returns c =
    let m = c.args.self.now in
    row-set m c.set.new.self c.args.block (record (row_of m.blocks.blocks c.args.block) { claim = None })
    c.args.tape.now c.set.new.tape c.requires.one c.requires.tidy
    (rw (c.set.ensures.set, c.unclaimed-free.ensures, c.row.ensures.row))
    c.set.ensures.layout c.set.ensures.notes
