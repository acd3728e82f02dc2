-- A machine after the volumes that it sealed, and the rows of an operation's blocks in all records,
-- those of the volumes and its own.
use Rattle.std.specs.Prelude.{◌≡◌, ℕ, false, List, [], ◌∷◌, ◌++◌}
use Rattle.hp_units.specs.Boot.{boot_memory}
use Rattle.hp_units.specs.Memory.{Memory, row_of}
use Rattle.hp_units.specs.Rows.{claimed_row}
use Rattle.hp_units.specs.History.{is_refused}
use Rattle.hp_units.specs.declared.events.Event.TheVariants.{Commit, Cancel}
use Rattle.hp_units.specs.declared.plans.Item.{Item}
use Rattle.hp_units.specs.declared.replies.Record.{Record}
use Rattle.hp_laws.specs.Operations.{BeginsAt, IsOpenBehind, RowsAre, wished_row}
use Rattle.hp_laws.specs.Seals.{net_of_all, state_just_after, state_just_before, value_of_all}
use Rattle.hp_history.specs.Volumes.{IsChain, histories_of, records_in, state_after}
use Rattle.hp_history.specs.declared.volumes.Volume.{Volume}
use Rattle.hp_machine.specs.Machine.{MachineValue}

-- a machine goes on from volumes: they follow one another from boot, hold as many records as were
-- sealed, and lead to the machine's base
pub record GoesOnFrom (volumes : List Volume) (m : MachineValue) : Type 0 where
  pub chain : IsChain m.layout volumes
  pub count : m.before ≡ records_in volumes
  pub base : m.base ≡ state_after m.layout volumes

-- the records of the volumes, then the machine's
abbrev pub all_records : List Volume → MachineValue → List (List Record)
all_records volumes m = histories_of volumes ++ m.history ∷ []

-- the state that histories lead to from boot
abbrev pub reached : MachineValue → List (List Record) → Memory
reached m hs = value_of_all m.layout (boot_memory m.layout) hs

-- the state just before one of the histories' records
abbrev pub found_by : MachineValue → List (List Record) → Record → Memory
found_by m hs r = state_just_before m.layout (boot_memory m.layout) 0 hs r

-- the state just after one of the histories' records
abbrev pub left_by : MachineValue → List (List Record) → Record → Memory
left_by m hs r = state_just_after m.layout (boot_memory m.layout) 0 hs r

-- a Begin that is not undone claims each block of its plan. Until its operation's Commit or Cancel,
-- in these volumes or in the machine, the blocks' rows are as the Begin left them
pub record HoldsRowsAfter (volumes : List Volume) (m : MachineValue) : Type 0 where
  pub claimed : (place : ℕ) (b : Record) (plan : List Item)
      → BeginsAt (net_of_all (all_records volumes m)) place b plan
      → RowsAre (left_by m (all_records volumes m) b) plan (λ item. claimed_row
      (row_of (found_by m (all_records volumes m) b).blocks item.block) b.serial item.wish)
  pub held : (place : ℕ) (b : Record) (plan : List Item)
      → BeginsAt (net_of_all (all_records volumes m)) place b plan
      → IsOpenBehind b.serial place (net_of_all (all_records volumes m))
      → RowsAre m.state plan (λ item. row_of (left_by m (all_records volumes m) b).blocks item.block)

-- a Commit that is not refused, of an operation whose Begin is not undone, gives each block of the plan
-- its wish, all in one step. Just before the Commit, the rows are as the Begin left them. `earlier` are
-- the histories before the one with the Commit, `h` the records before the Commit in that one
pub record GrantsWishesAfter (volumes : List Volume) (m : MachineValue) : Type 0 where
  pub held : (earlier later : List (List Record)) (h rest : List Record) (r : Record) (place : ℕ) (b : Record)
      (plan : List Item)
      → all_records volumes m ≡ earlier ++ (h ++ r ∷ rest) ∷ later
      → BeginsAt (net_of_all (earlier ++ h ∷ [])) place b plan → r.event ≡ Commit b.serial
      → is_refused r.reply ≡ false
      → RowsAre (reached m (earlier ++ h ∷ [])) plan
      (λ item. row_of (left_by m (earlier ++ h ∷ []) b).blocks item.block)
  pub granted : (earlier later : List (List Record)) (h rest : List Record) (r : Record) (place : ℕ)
      (b : Record) (plan : List Item)
      → all_records volumes m ≡ earlier ++ (h ++ r ∷ rest) ∷ later
      → BeginsAt (net_of_all (earlier ++ h ∷ [])) place b plan → r.event ≡ Commit b.serial
      → is_refused r.reply ≡ false
      → RowsAre (reached m (earlier ++ (h ++ r ∷ []) ∷ [])) plan (λ item. wished_row item.wish)

-- a Cancel that is not refused, of an operation whose Begin is not undone, gives each block of the plan
-- back the row that it had just before the Begin. `earlier` and `h` are as in GrantsWishesAfter
abbrev pub GivesRowsBackAfter : List Volume → MachineValue → Type 0
GivesRowsBackAfter volumes m =
    (earlier later : List (List Record)) (h rest : List Record) (r : Record) (place : ℕ) (b : Record)
    (plan : List Item)
    → all_records volumes m ≡ earlier ++ (h ++ r ∷ rest) ∷ later
    → BeginsAt (net_of_all (earlier ++ h ∷ [])) place b plan → r.event ≡ Cancel b.serial
    → is_refused r.reply ≡ false
    → RowsAre (reached m (earlier ++ (h ++ r ∷ []) ∷ [])) plan
    (λ item. row_of (found_by m (earlier ++ h ∷ []) b).blocks item.block)

-- what holds of the rows of operations' blocks, over the volumes and the machine's own history
pub record KeepsOperationsAfter (volumes : List Volume) (m : MachineValue) : Type 0 where
  pub rows : HoldsRowsAfter volumes m
  pub commits : GrantsWishesAfter volumes m
  pub cancels : GivesRowsBackAfter volumes m

-- KeepsOperationsAfter holds for all volumes that the machine goes on from
abbrev pub KeepsOperationsAcrossSeals : MachineValue → Type 0
KeepsOperationsAcrossSeals m =
    (volumes : List Volume) → GoesOnFrom volumes m → KeepsOperationsAfter volumes m

-- if the old machine goes on from some volumes, the new one goes on from these and then `v`
abbrev pub GoesOnWith : MachineValue → Volume → MachineValue → Type 0
GoesOnWith old v new = (volumes : List Volume) → GoesOnFrom volumes old → GoesOnFrom (volumes ++ v ∷ []) new
