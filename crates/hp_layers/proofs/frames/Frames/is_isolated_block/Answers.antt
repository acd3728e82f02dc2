use Rattle.hp_layers.proofs.Removed.{first-within}
use Rattle.hp_layers.proofs.frames.Frames.is_isolated_block.Goals as goal

pub is_free-requires : goal.is_free-requires
is_free-requires c =
    first-within c.args.layout.now c.args.self.now.buddy.layout c.args.pageblock c.pageblock.inside.0
    c.order.result c.order.ensures.layout c.requires.same c.requires.pageblock c.order.ensures.is
    c.pageblock.view_is
