use Rattle.std.proofs.Common.{arith}
use Rattle.hp_map.proofs.PlacesTogether.{pageblock_within}
use Rattle.hp_map.proofs.marks.mark_pageblock.Goals as goal

pub mark_frames-requires : goal.mark_frames-requires
mark_frames-requires c =
    let within =
    pageblock_within c.layout-layout.result.now c.args.pageblock c.pageblock_size.ensures.layout
    (rw c.layout-layout.ensures c.requires) in
    omega (arith, within, c.first_frame-first.ensures, c.first.view_is, c.pageblock_size.ensures.is)
