-- The rows that a packed change of a row represents.
use Rattle.std.specs.Prelude.{◌≡◌, ℕ, Option, None, Some}
use Rattle.hp_units.specs.declared.rows.Row.{Row}
use Rattle.hp_units.specs.declared.rows.Claim.{Claim}
use Rattle.hp_units.specs.declared.rows.Wish.TheVariants.{Off, Normal, Movable}
use Rattle.hp_units.specs.declared.rows.Zone.{Zone}
use Rattle.hp_units.specs.declared.rows.Zone.TheVariants.{Normal as NormalZone, Movable as MovableZone}
use Rattle.hp_tape.specs.declared.row_changes.PackedRow.{PackedRow}
use Rattle.hp_tape.specs.declared.row_changes.ZonePart.{ZonePart}
use Rattle.hp_tape.specs.declared.row_changes.ZonePart.TheVariants.{None as NoZone, Normal as NormalPart, Movable as MovablePart}
use Rattle.hp_tape.specs.declared.row_changes.WishPart.{WishPart}
use Rattle.hp_tape.specs.declared.row_changes.WishPart.TheVariants.{None as NoWish, Off as OffPart, Normal as NormalWish, Movable as MovableWish}

-- a memory block, and its rows before and after a change
pub record RowChangeValue : Type 0 where
  pub block : ℕ
  pub before : Row
  pub after : Row

abbrev pub zone_in : ZonePart → Option Zone
zone_in NoZone = None
zone_in NormalPart = Some NormalZone
zone_in MovablePart = Some MovableZone

abbrev pub claim_in : WishPart → (op : ℕ) → Option Claim
claim_in NoWish op = None
claim_in OffPart op = Some (record { op = op; wish = Off })
claim_in NormalWish op = Some (record { op = op; wish = Normal })
claim_in MovableWish op = Some (record { op = op; wish = Movable })

-- the two claims are not of different operations
abbrev pub AreOfOneOperation : Option Claim → Option Claim → Type 0
AreOfOneOperation (Some before) (Some after) = before.op ≡ after.op
AreOfOneOperation before after = Unit {0}

abbrev pub row_in : PackedRow → (op : ℕ) → Row
row_in packed op =
    record { state = packed.state; zone = zone_in packed.zone; claim = claim_in packed.wish op }
