use Rattle.std.proofs.Common.{◌*◌, ap, ◌∙◌, arith}
use Rattle.hp_units.specs.declared.rows.Row.{Row}
use Rattle.hp_units.specs.Isolation.{remove_block}
use Rattle.hp_units.specs.Memory.{offline_row, with_row}
use Rattle.hp_units.specs.Rows.{zone_of_block}
use Rattle.hp_layers.proofs.Releases.{areas-and-row}
use Rattle.hp_layers.proofs.layers.Layers.offline_block.Goals as goal

pub returns : goal.returns
returns c =
    let m = c.args.self.now in
    let l = m.layout in
    areas-and-row m c.remove_block.new.self c.set.new.self c.args.block (l.pageblocks * 2) _ (remove_block l
    (zone_of_block m.blocks.blocks c.args.block) m.frames.buddy.areas c.args.block) offline_row
    c.args.tape.now c.remove_block.new.tape c.set.new.tape c.requires.one (omega arith)
    (rw (← c.zone_of_block-zone.ensures) c.remove_block.ensures)
    (c.set.ensures.set ∙ ap (λ (r : Row). with_row m.blocks.blocks c.args.block r) c.bare.ensures)
    c.set.ensures.layout c.set.ensures.notes

pub remove_block-requires-clause-free : goal.remove_block-requires-clause-free
remove_block-requires-clause-free c =
    rw c.zone_of_block-zone.ensures c.requires.free
