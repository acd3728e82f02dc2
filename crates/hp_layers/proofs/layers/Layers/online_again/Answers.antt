use Rattle.std.proofs.Common.{false, None}
use Rattle.hp_units.specs.declared.rows.State.TheVariants.{Online as OnlineState}
use Rattle.hp_units.specs.Memory.{row_of}
use Rattle.hp_layers.proofs.Releases.{moved}
use Rattle.hp_layers.proofs.layers.Layers.online_again.Goals as goal

pub returns : goal.returns
returns c =
    let m = c.args.self.now in
    moved m c.move_block.new.self c.set.new.self c.args.block false c.zone_of_block-zone.result
    (record { state = OnlineState; zone = (row_of m.blocks.blocks c.args.block).zone; claim = None })
    c.args.tape.now c.move_block.new.tape c.set.new.tape c.requires.one c.zone_of_block-zone.ensures
    c.move_block.ensures
    (rw (c.set.ensures.set, c.row.ensures.row))
    c.set.ensures.layout c.set.ensures.notes
