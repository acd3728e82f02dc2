use Rattle.hp_layers.proofs.OnlineBlocks.{onlined, unplugged-nowhere}
use Rattle.hp_layers.proofs.Placed.{tidy-placed}
use Rattle.hp_layers.proofs.layers.Layers.online_block.Goals as goal

pub add_block-requires-clause-tidy : goal.add_block-requires-clause-tidy
add_block-requires-clause-tidy c = tidy-placed c.args.self.now c.requires.placed

pub add_block-requires-clause-nowhere : goal.add_block-requires-clause-nowhere
add_block-requires-clause-nowhere c =
    unplugged-nowhere c.args.self.now c.args.block c.requires.placed c.requires.unplugged

pub returns : goal.returns
returns c =
    onlined c.args.self.now c.add_block.new.self c.set.new.self c.args.zone c.args.block c.args.tape.now
    c.set.new.tape c.add_block.new.tape c.requires.placed
    (rw (c.set.ensures.set, c.online.ensures))
    c.set.ensures.layout c.set.ensures.notes c.add_block.ensures
