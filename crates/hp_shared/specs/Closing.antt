-- When a shared machine is closed, and why it is not.
use Rattle.std.specs.Prelude.{◌≡◌, ℕ, List, length, sum_by}
use Rattle.std.specs.List.{All}
use Rattle.hp_units.specs.LayoutParts.{LayoutParts}
use Rattle.hp_history.specs.declared.volumes.Volume.{Volume}
use Rattle.hp_machine.specs.Machine.{MachineValue}
use Rattle.hp_shared.specs.declared.closing.CloseFault.{CloseFault}
use Rattle.hp_shared.specs.declared.closing.CloseFault.TheVariants.{SeatMissing, WrongVolume, Mismatch, OutOfMemory}
use Rattle.hp_shared.specs.Comparing.{HasEach, IsLowest, IsSettled, MismatchesAt}
use Rattle.hp_shared.specs.Shared.{HasReached, IsShared, LockedValue, SeatValue}
use Rattle.hp_shared.specs.Volumes.{IsWrongAt, ReachSealed, all_records}

-- there is one seat per processor, the volumes are all that the machine sealed, and the seats'
-- receipts are exactly all records; `count` is their number
pub record IsChecked (m : MachineValue) (cpus : ℕ) (seats : List SeatValue) (volumes : List Volume)
    (count : ℕ) : Type 0 where
  pub each : HasEach cpus seats
  pub reach : ReachSealed volumes m.before
  pub settled : IsSettled (all_records volumes m) seats
  pub records : count ≡ length (all_records volumes m)

-- the fault applies, and no fault of a case above it does. OutOfMemory, though, may come in place of a
-- Mismatch. `at` is as in IsWrongAt, `serial` is the lowest serial of a mismatch
abbrev pub HasFault : MachineValue → (cpus : ℕ) → List SeatValue → List Volume → CloseFault → Type 0
HasFault m cpus seats volumes SeatMissing = HasEach cpus seats → ⊥
HasFault m cpus seats volumes (WrongVolume at) = HasEach cpus seats × IsWrongAt volumes m.before at
HasFault m cpus seats volumes (Mismatch serial) =
    HasEach cpus seats × ReachSealed volumes m.before
    × IsLowest (MismatchesAt (all_records volumes m) seats) serial
HasFault m cpus seats volumes OutOfMemory = HasEach cpus seats × ReachSealed volumes m.before

-- if a call of a seat found the history full, then `all` (the number of all records) has reached a
-- history's limit, or no serial is left
abbrev pub AreReached : LayoutParts → List SeatValue → (all : ℕ) → Type 0
AreReached l seats all = All (HasReached l all) seats

-- the machine is a shared machine of the layout. With the seats and the volumes it passed the check
-- (IsChecked), and it has `count` records in all. If a seat found the history full, `count` has reached
-- the limit, or no serial is left
pub record IsClosed (l : LayoutParts) (seats : List SeatValue) (volumes : List Volume) (m : MachineValue)
    (count : ℕ) : Type 0 where
  pub shared : IsShared l (record { machine = m; total = count })
  pub checked : IsChecked m l.cpus seats volumes count
  pub reached : AreReached l seats count

-- how many receipts all seats have
abbrev pub receipts_in : List SeatValue → ℕ
receipts_in seats = sum_by (λ seat. length seat.receipts) seats

-- how many records the seals of all seats handed out
abbrev pub handed_in : List SeatValue → ℕ
handed_in seats = sum_by (λ seat. seat.sealed) seats

-- the seats have as many receipts as there are records, and their seals handed out all sealed
-- records. If a seat found the history full, the records reach the limit, or no serial is left
pub record AreCounted (l : LayoutParts) (seats : List SeatValue) (seen : LockedValue) : Type 0 where
  pub receipts : receipts_in seats ≡ seen.total
  pub handed : handed_in seats ≡ seen.machine.before
  pub reached : AreReached l seats seen.total

-- the fault applies to some state that was under the lock; if there are as many seats as
-- processors, the seats' counts agree with that state
pub record HasCause (l : LayoutParts) (seats : List SeatValue) (volumes : List Volume)
    (why : CloseFault) : Type 0 where
  pub seen : LockedValue
  pub shared : IsShared l seen
  pub all : length seats ≡ l.cpus → AreCounted l seats seen
  pub fault : HasFault seen.machine l.cpus seats volumes why
