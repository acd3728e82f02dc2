-- The block's frames lie within the table.
use Rattle.std.proofs.Common.{arith}
use Rattle.hp_layers.proofs.Migrated.{block-last}
use Rattle.hp_layers.proofs.layers.Layers.lowest_kernel_frame.Goals as goal

pub lowest-requires-clause-within : goal.lowest-requires-clause-within
lowest-requires-clause-within c =
    omega (
      arith,
      block-last c.args.self.now.layout c.requires.block c.block.view_is c.block_size-size.ensures.is,
      c.requires.one.kernel,
    )

pub lowest-requires-clause-small : goal.lowest-requires-clause-small
lowest-requires-clause-small c =
    omega (
      arith,
      block-last c.args.self.now.layout c.requires.block c.block.view_is c.block_size-size.ensures.is,
      c.requires.one.layout,
    )

pub returns : goal.returns
returns c =
    rw (c.lowest.ensures, c.block.view_is, c.block_size-size.ensures.is)
