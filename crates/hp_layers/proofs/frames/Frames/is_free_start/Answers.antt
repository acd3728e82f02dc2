use Rattle.std.proofs.Common.{◌∙◌}
use Rattle.hp_layers.proofs.Frees.{start-place}
use Rattle.hp_layers.proofs.frames.Frames.is_free_start.Goals as goal

pub returns : goal.returns
returns c =
    c.is_of_order.ensures ∙ start-place c.args.self.now.buddy.areas c.args.frame c.args.order c.place.result
    (record { on = c.place.ensures.on; free = c.place.ensures.free })
