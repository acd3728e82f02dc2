use Rattle.std.proofs.Common.{[], ◌∷◌, length, refl, ap, inr}
use Rattle.hp_shared.proofs.lines.take_volume.Goals as goal

pub returns-in-Ok-seal : goal.returns-in-Ok-seal
returns-in-Ok-seal g c =
    let volume = c.in-Ok-seal.volume in
    let ok = c.in-Ok-seal.ensures in
    record {
      handed = volume ∷ [];
      line = inr (refl, (volume, refl, ok.ok, ap length c.as_slice.ensures, ok.seat));
      kept = rw (c.push_reserved.ensures.items, c.reserve.ensures.items);
    }
