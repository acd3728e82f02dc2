use Rattle.std.proofs.Common.{◌<◌, arith}
use Rattle.hp_units.specs.Arithmetic.{block_size}
use Rattle.hp_map.proofs.Bounds.{block_within_frames}
use Rattle.hp_map.proofs.cells.first_of.Goals as goal

pub returns-clause-within : goal.returns-clause-within
returns-clause-within c =
    let low : c.block.inside.0 < c.args.layout.now.blocks = omega arith in
    rw c.block_size.ensures.is
    (block_within_frames c.args.layout.now.blocks (block_size c.args.layout.now) c.block.inside.0 low)
