use Rattle.std.proofs.Common.{ap, ◌∙◌}
use Rattle.hp_units.specs.declared.rows.Row.{Row}
use Rattle.hp_units.specs.Memory.{offline_row, with_row}
use Rattle.hp_layers.proofs.SingleBlocks.{blocks-put}
use Rattle.hp_layers.proofs.layers.Layers.set_bare.Goals as goal

pub returns : goal.returns
returns c =
    let m = c.args.self.now in
    blocks-put m c.set.new.self
    (with_row m.blocks.blocks c.args.block (record offline_row { state = c.args.state })) c.args.tape.now
    c.set.new.tape c.requires.one c.requires.tidy
    (c.set.ensures.set ∙ ap (λ (r : Row). with_row m.blocks.blocks c.args.block r) c.bare.ensures)
    c.set.ensures.layout c.set.ensures.notes
