use Rattle.std.proofs.Common.{arith}
use Rattle.std.proofs.lemmas.Nat.{pow_pos}
use Rattle.hp_buddy.proofs.Pageblocks.{frame_in}
use Rattle.hp_buddy.proofs.buddy.Buddy.is_one_block.Goals as goal

pub is_free-requires-clause-frame : goal.is_free-requires-clause-frame
is_free-requires-clause-frame c =
    let l = c.args.self.now.layout in
    omega (arith, frame_in l c.args.pageblock 0 c.requires (pow_pos l.order), c.first_frame.ensures)
