use Rattle.hp_units.proofs.Geometry.{pageblock_in}
use Rattle.hp_layers.proofs.frames.Frames.put_one_room.Goals as goal

pub kind-kind-requires : goal.kind-kind-requires
kind-kind-requires c =
    let l = c.args.layout.now in
    rw (c.requires.same, c.pageblock_of.ensures) (pageblock_in l c.args.frame c.requires.frame)
