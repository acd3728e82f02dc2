use Rattle.hp_memory.proofs.loads.kernel.load_block.Goals as goal

pub back-requires : goal.back-requires
back-requires c = (c.args.image.now.layout, c.requires.size, c.requires.frame)
