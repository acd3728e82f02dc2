use Rattle.std.proofs.Common.{◌<◌, ◌∙◌, ap, length, refl, arith}
use Rattle.std.proofs.lemmas.Option.{slice_get_read}
use Rattle.hp_shared.proofs.Sealing.{count_next, counted_next}
use Rattle.hp_shared.proofs.volumes.wrong_volume.Goals as goal

pub loop-at-preserved : goal.loop-at-preserved
loop-at-preserved c =
    let vs = c.args.volumes.now.items in
    let at = c.loop-at.at in
    let i = c.loop-at.invariant in
    let v = c.index-volume.result.now in
    let inside : at < length vs =
    omega (arith, c.loop-at-test.true, c.len-at-end.ensures, c.args.volumes.now.ok.0) in
    let get = slice_get_read vs (length vs) at v refl inside c.index-volume.ensures in (
      count_next vs at c.loop-at.count (length c.as_slice.result.now) v get i.0
          (ap length c.as_slice.ensures),
      counted_next vs at v get (c.if-volume-count.false ∙ i.0) i.1,
      omega (arith, i.2),
    )
