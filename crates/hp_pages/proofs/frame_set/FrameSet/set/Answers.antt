use Rattle.std.proofs.Common.{◌<◌, ◌*◌, ◌/◌, length, arith}
use Rattle.std.proofs.lemmas.List.{get_or_read}
use Rattle.hp_pages.proofs.FrameSets.{has-set}
use Rattle.hp_pages.proofs.frame_set.FrameSet.set.Goals as goal

pub returns-clause-has : goal.returns-clause-has
returns-clause-has c =
    let words = c.self.inside.words.items in
    let frame = c.frame.inside.0 in
    let low : frame < 64 * length words = rw (c.self.view_is, c.frame.view_is) c.requires in
    let was = get_or_read words (frame / 64) c.index.result.now (omega (arith, low)) c.index.ensures 0 in
    λ n.
    rw (has-set words frame c.index.result.now c.with_bit.result c.args.is_in low was c.with_bit.ensures n)
    (rw (c.frame.view_is, c.self.view_is))
