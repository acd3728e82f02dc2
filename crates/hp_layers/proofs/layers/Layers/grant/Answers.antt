use Rattle.hp_layers.proofs.Placed.{tidy-placed}
use Rattle.hp_layers.proofs.layers.Layers.grant.Goals as goal

pub offline_block-requires-clause-tidy : goal.offline_block-requires-clause-tidy
offline_block-requires-clause-tidy c = tidy-placed c.args.self.now c.requires.placed
