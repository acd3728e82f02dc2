-- The volumes that seals handed out, and all records: theirs and the machine's own.
use Rattle.std.specs.Prelude.{ℕ, ◌≡◌, ◌≢◌, ◌+◌, ◌<◌, ◌≤◌, ◌⊎◌, List, [], ◌∷◌, ◌++◌, Some, length, slice_get, take}
use Rattle.hp_units.specs.LayoutParts.{LayoutParts}
use Rattle.hp_units.specs.declared.replies.Record.{Record}
use Rattle.hp_history.specs.Volumes.{records_in, volume_of}
use Rattle.hp_history.specs.declared.volumes.Volume.{Volume}
use Rattle.hp_machine.specs.Machine.{MachineValue, last_serial}
use Rattle.hp_shared.specs.Shared.{IsShared, LockedValue, SeatValue}

-- the records of all volumes, in order
abbrev pub sealed_records : List Volume → List Record
sealed_records [] = []
sealed_records (v ∷ vs) = v.records ++ sealed_records vs

-- all records: those of the volumes, then the machine's own
abbrev pub all_records : List Volume → MachineValue → List Record
all_records volumes m = sealed_records volumes ++ m.history

-- for each volume with an index below `end`, `before` is the number of records in the volumes before it
abbrev pub AreCountedBefore : List Volume → ℕ → Type 0
AreCountedBefore volumes end =
    (at : ℕ) (v : Volume) → at < end → slice_get volumes at ≡ Some v → v.before ≡ records_in (take at volumes)

-- for each volume, `before` is the number of records in the volumes before it; together the volumes
-- hold `sealed` records
pub record ReachSealed (volumes : List Volume) (sealed : ℕ) : Type 0 where
  pub counted : AreCountedBefore volumes (length volumes)
  pub sealed_all : records_in volumes ≡ sealed

-- the volume with index `at` has a `before` that is not the number of records in the volumes before it
abbrev pub IsMiscounted : List Volume → ℕ → Type 0
IsMiscounted volumes at =
    (v : Volume) × (slice_get volumes at ≡ Some v) × (v.before ≢ records_in (take at volumes))

-- `at` is the index of the first volume whose `before` is wrong; if none is wrong, but the volumes do
-- not hold `sealed` records, it is the number of volumes
pub record IsWrongAt (volumes : List Volume) (sealed at : ℕ) : Type 0 where
  pub counted : AreCountedBefore volumes at
  pub wrong : IsMiscounted volumes at ⊎ ((at ≡ length volumes) × (records_in volumes ≢ sealed))

-- the volume is that of some state of the shared machine: it holds all records since the last seal. The
-- last serial of that state is at least `receipts`
pub record IsSealOf (l : LayoutParts) (v : Volume) (receipts : ℕ) : Type 0 where
  pub seen : LockedValue
  pub shared : IsShared l seen
  pub is : v ≡ volume_of seen.machine
  pub within : receipts ≤ last_serial seen.machine

-- a seat after its seal handed out a volume
abbrev pub sealed_by : SeatValue → Volume → SeatValue
sealed_by seat v =
    record {
      cpu = seat.cpu;
      receipts = seat.receipts;
      sealed = seat.sealed + length v.records;
      fulls = seat.fulls;
    }
