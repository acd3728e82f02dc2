-- How far a seat's receipts have been compared with its processor's records.
use Rattle.std.specs.Prelude.{◌≡◌, ◌≢◌, ℕ, ◌+◌, ◌^◌, ◌<◌, ◌⊎◌, List, ◌++◌, length, Option, Some, None, if◌then◌else◌, nat_le, slice_get}
use Rattle.hp_units.specs.Receipts.{receipts_of}
use Rattle.hp_units.specs.declared.replies.Receipt.{Receipt}
use Rattle.hp_units.specs.declared.replies.Record.{Record}
use Rattle.hp_shared.specs.declared.marks.Compared.{Compared}
use Rattle.hp_shared.specs.Comparing.{IsOutcome, IsSeatOf, StraysAt}
use Rattle.hp_shared.specs.Shared.{SeatValue}

-- the lower of two serials; if only one is there, that one; otherwise None
abbrev pub lower : Option ℕ → Option ℕ → Option ℕ
lower None n = n
lower (Some m) None = Some m
lower (Some m) (Some n) = Some (if nat_le m n then m else n)

-- `entry` is not the receipt `b`, and `serial` is that of one of these two
abbrev pub EntryDiffersAt : Option Receipt → Receipt → ℕ → Type 0
EntryDiffersAt entry b serial =
    (entry ≢ Some b) × ((b.serial ≡ serial) ⊎ ((a : Receipt) × (entry ≡ Some a) × (a.serial ≡ serial)))

-- at some index of `done` the seat has another receipt or none, and `serial` is that of one of
-- the receipts there
abbrev pub DiffersBefore : List Receipt → List Receipt → ℕ → Type 0
DiffersBefore receipts done serial =
    (at : ℕ) × (b : Receipt) × (slice_get done at ≡ Some b) × EntryDiffersAt (slice_get receipts at) b serial

-- the seat has each receipt of `done` at the same index
abbrev pub Agrees : List Receipt → List Receipt → Type 0
Agrees receipts done = (at : ℕ) (b : Receipt) → slice_get done at ≡ Some b → slice_get receipts at ≡ Some b

-- `m` is the mark of a seat whose receipts have been compared with `done`
pub record IsMark (receipts done : List Receipt) (m : Compared) : Type 0 where
  pub next : m.next ≡ length done
  pub lowest : IsOutcome (Agrees receipts done) (DiffersBefore receipts done) m.lowest

-- `marks` are the marks of all seats after the records of `history` have been compared
abbrev pub AreMarks : List Record → List SeatValue → List Compared → Type 0
AreMarks history seats marks =
    (place : ℕ) (seat : SeatValue) → slice_get seats place ≡ Some seat
    → (m : Compared) × (slice_get marks place ≡ Some m)
    × IsMark seat.receipts (receipts_of seat.cpu history) m

-- after the records that were compared, `more` can follow: together they are fewer than 2^64
abbrev pub HasRoom : ℕ → List SeatValue → List Compared → Type 0
HasRoom more seats marks =
    (history : List Record) × (length history + more < 2 ^ 64) × AreMarks history seats marks

-- if `old` are the marks after some records, `new` are the marks after these and then `records`
abbrev pub AreMarkedOn : List Record → List SeatValue → List Compared → List Compared → Type 0
AreMarkedOn records seats old new =
    (history : List Record) → AreMarks history seats old → AreMarks (history ++ records) seats new

-- each record belongs to some seat
abbrev pub AreSeated : List Record → List SeatValue → Type 0
AreSeated history seats = (at : ℕ) (r : Record) → slice_get history at ≡ Some r → IsSeatOf seats r.cpu

-- the result of looking for records that belong to no seat
abbrev pub AreStrays : List Record → List SeatValue → Option ℕ → Type 0
AreStrays records seats = IsOutcome (AreSeated records seats) (StraysAt records seats)
