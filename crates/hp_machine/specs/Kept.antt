-- What a machine keeps besides its course.
use Rattle.std.specs.Prelude.{◌≡◌, ◌≤◌, length}
use Rattle.hp_units.specs.Boot.{boot_memory}
use Rattle.hp_units.specs.LayoutParts.{IsLayout}
use Rattle.hp_units.specs.Placement.{IsWellPlaced}
use Rattle.hp_laws.specs.Offline.{AreClaimedUpTo}
use Rattle.hp_machine.specs.Machine.{IsHistory, MachineValue}

-- the layout and the history are within their limits, and the history is legal and leads to the state.
-- Each frame of the base is in exactly one place, and operations that hold blocks of the base have
-- numbers up to that of the last sealed record. Until a record is sealed, the base is the state at boot
pub record IsMachine (m : MachineValue) : Type 0 where
  pub limits : IsLayout m.layout
  pub placed : IsWellPlaced m.layout m.base
  pub numbered : AreClaimedUpTo m.before m.base.blocks
  pub history : IsHistory m
  pub few : length m.history ≤ m.layout.history
  pub boots : m.before ≡ 0 → m.base ≡ boot_memory m.layout
