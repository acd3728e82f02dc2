-- In a well placed state the free areas and the processors' lists are together, and frames in use
-- may come back.
use Rattle.std.proofs.Common.{ℕ, arith}
use Rattle.hp_units.specs.LayoutParts.{LayoutParts, IsLayout}
use Rattle.hp_units.specs.Memory.{Memory}
use Rattle.hp_units.specs.Placement.{IsWellPlaced}
use Rattle.hp_units.proofs.Placed.{IsInUse, past-offline}
use Rattle.hp_buddy.proofs.Placed.{placed-apart}
use Rattle.hp_buddy.specs.Cpus.{AreTogether, MayBePut}

-- no frame is in two places of the free areas and the processors' lists
pub placed-together : (l : LayoutParts) (s : Memory) → IsLayout l → IsWellPlaced l s
    → AreTogether (record { layout = l; cached = s.free.cached })
    (record { layout = l; areas = s.free.areas })
placed-together l s layout h = grind (arith, placed-apart, past-offline)

-- a frame in use is in none of these places
pub in_use-put : (l : LayoutParts) (s : Memory) (frame : ℕ) → IsInUse l s 0 frame
    → MayBePut (record { layout = l; cached = s.free.cached }) (record { layout = l; areas = s.free.areas })
    frame
in_use-put l s frame block = omega arith
