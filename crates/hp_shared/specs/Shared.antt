-- The value of a shared machine and of its seats, and what a call of a seat does.
use Rattle.std.specs.Prelude.{ℕ, ◌≡◌, ◌+◌, ◌<◌, ◌≤◌, ◌⊎◌, List, [], ◌∷◌, ◌++◌, length, map, Result, Ok, Err}
use Rattle.std.specs.List.{range_with_len}
use Rattle.hp_units.specs.LayoutParts.{LayoutParts}
use Rattle.hp_units.specs.Memory.{Memory}
use Rattle.hp_units.specs.declared.events.Event.{Event}
use Rattle.hp_units.specs.declared.replies.CallFault.{CallFault}
use Rattle.hp_units.specs.declared.replies.CallFault.TheVariants.{HistoryFull, OutOfMemory}
use Rattle.hp_units.specs.declared.replies.Receipt.{Receipt}
use Rattle.hp_units.specs.declared.replies.Record.{Record}
use Rattle.hp_units.specs.declared.replies.Reply.{Reply}
use Rattle.hp_history.specs.Volumes.{IsChain, records_in, state_after}
use Rattle.hp_history.specs.declared.volumes.Volume.{Volume}
use Rattle.hp_machine.specs.Machine.{IsHistory, MachineValue, last_serial, record_of}

-- what is under the lock: a machine, and how many records it has made
pub record LockedValue : Type 0 where
  pub machine : MachineValue
  pub total : ℕ

-- a machine of the layout without records, which sealed nothing
pub record IsFresh (l : LayoutParts) (m : MachineValue) : Type 0 where
  pub layout : m.layout ≡ l
  pub before : m.before ≡ 0
  pub history : m.history ≡ []

-- some volumes (what seals hand out), each following those before it, lead from the layout's boot
-- to the state `base`, and hold `before` records
abbrev pub IsSealedFromBoot : LayoutParts → Memory → ℕ → Type 0
IsSealedFromBoot l base before =
    (volumes : List Volume) × IsChain l volumes × (before ≡ records_in volumes)
    × (base ≡ state_after l volumes)

-- what is under every lock: a machine of the layout, whose history is legal and leads to its state.
-- Its base is what earlier seals left, from boot on; `total` is the number of all records
pub record IsShared (l : LayoutParts) (v : LockedValue) : Type 0 where
  pub layout : v.machine.layout ≡ l
  pub sealed : IsSealedFromBoot l v.machine.base v.machine.before
  pub history : IsHistory v.machine
  pub total : v.total ≡ last_serial v.machine

-- a seat: its processor, its receipts, oldest first, how many records its seals handed out, and how
-- many of its calls found the history full
pub record SeatValue : Type 0 where
  pub cpu : ℕ
  pub receipts : List Receipt
  pub sealed : ℕ
  pub fulls : ℕ

-- the seat of a processor before its first call
abbrev pub first_seat : ℕ → SeatValue
first_seat cpu = record { cpu = cpu; receipts = []; sealed = 0; fulls = 0 }

-- the seats of all processors before their first calls
abbrev pub first_seats : (cpus : ℕ) → List SeatValue
first_seats cpus = map first_seat (range_with_len 0 cpus)

-- the records without the `sealed` ones are at least as many as a history holds, or no serial is left
abbrev pub IsFilled : LayoutParts → (sealed all : ℕ) → Type 0
IsFilled l sealed all = (l.history + sealed ≤ all) ⊎ (18446744073709551615 ≤ all)

-- there are at least as many records as a history holds, or no serial is left
abbrev pub IsReached : LayoutParts → (all : ℕ) → Type 0
IsReached l all = (l.history ≤ all) ⊎ (18446744073709551615 ≤ all)

-- if a seat found the history full, there are at least as many records as a history holds,
-- or no serial is left
abbrev pub HasReached : LayoutParts → (all : ℕ) → SeatValue → Type 0
HasReached l all seat = 0 < seat.fulls → IsReached l all

-- 1 if a result is `HistoryFull`, otherwise 0
abbrev pub fulls_of : {A : Type 0} → Result A CallFault → ℕ
fulls_of (Ok answer) = 0
fulls_of (Err HistoryFull) = 1
fulls_of (Err OutOfMemory) = 0

-- a seat after a call that failed
abbrev pub left_by : SeatValue → CallFault → SeatValue
left_by seat HistoryFull =
    record { cpu = seat.cpu; receipts = seat.receipts; sealed = seat.sealed; fulls = seat.fulls + 1 }
left_by seat OutOfMemory = seat

-- as far as the seat's own counts show, the history may be full: on a machine with one processor, the
-- seat's unsealed receipts reach the limit of a history
abbrev pub MayBeFull : LayoutParts → SeatValue → Type 0
MayBeFull l seat = l.cpus ≡ 1 → l.history + seat.sealed ≤ length seat.receipts

-- the last record of the machine's history is the processor's, and the receipt is that record's
pub record IsLastOf (m : MachineValue) (cpu : ℕ) (r : Receipt) : Type 0 where
  pub earlier : List Record
  pub history : m.history ≡ earlier ++ record_of cpu r ∷ []
  pub serial : r.serial ≡ last_serial m

-- a processor's turn under the lock: the receipt is for this event and belongs to the last record
-- of some state of the shared machine. Its serial is at least the seat's number of receipts
pub record IsTurn (l : LayoutParts) (cpu : ℕ) (event : Event) (r : Receipt) (receipts : ℕ) : Type 0 where
  pub asked : r.event ≡ event
  pub seen : LockedValue
  pub shared : IsShared l seen
  pub last : IsLastOf seen.machine cpu r
  pub within : receipts ≤ r.serial

-- a seat's call of an event: its receipt is appended, and its serial is above the history's limit
-- if the seat found the history full before
pub record IsSeated (l : LayoutParts) (old : SeatValue) (event : Event) (r : Receipt)
    (new : SeatValue) : Type 0 where
  pub inside : old.cpu < l.cpus
  pub cpu : new.cpu ≡ old.cpu
  pub receipts : new.receipts ≡ old.receipts ++ r ∷ []
  pub sealed : new.sealed ≡ old.sealed
  pub fulls : new.fulls ≡ old.fulls
  pub turn : IsTurn l old.cpu event r (length new.receipts)
  pub late : 0 < old.fulls → l.history < r.serial

-- a seat's call of an event with this reply: its receipt is appended
pub record IsSeatCall (l : LayoutParts) (old : SeatValue) (event : Event) (reply : Reply)
    (new : SeatValue) : Type 0 where
  pub receipt : Receipt
  pub replied : receipt.reply ≡ reply
  pub seated : IsSeated l old event receipt new
