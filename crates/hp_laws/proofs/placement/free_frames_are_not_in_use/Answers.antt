-- A frame is in one place.
use Rattle.std.proofs.Common.{◌≡◌, arith}
use Rattle.hp_units.specs.Placement.{offline_places}
use Rattle.hp_laws.proofs.placement.free_frames_are_not_in_use.Goals as goal

pub returns-clause-free : goal.returns-clause-free
returns-clause-free c l s frame placed some = omega (arith, placed.once frame, some)

pub returns-clause-unplugged : goal.returns-clause-unplugged
returns-clause-unplugged c l s frame placed unplugged =
    let there : offline_places l s frame ≡ 1 = rw unplugged in
    omega (arith, placed.once frame, there)
