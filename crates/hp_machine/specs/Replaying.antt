-- Which record of a list is the first at fault, and why.
use Rattle.std.specs.Prelude.{ℕ, ◌≡◌, ◌≢◌, ◌+◌, List, [], ◌∷◌, ◌++◌, Some, take, slice_get}
use Rattle.hp_units.specs.LayoutParts.{LayoutParts}
use Rattle.hp_units.specs.Memory.{Memory}
use Rattle.hp_units.specs.History.{Follows, IsLegal, reply_of, value_of}
use Rattle.hp_units.specs.declared.replies.Record.{Record}
use Rattle.hp_history.specs.Course.{CourseValue, last_serial}
use Rattle.hp_machine.specs.declared.replaying.ReplayFault.{ReplayFault}
use Rattle.hp_machine.specs.declared.replaying.ReplayFault.TheVariants.{WrongReply, WrongSerial, OutOfMemory}

-- the record has index `at`, and those before it are a legal history
pub record ComesAt (l : LayoutParts) (base : Memory) (before : ℕ) (h : List Record) (at : ℕ)
    (r : Record) : Type 0 where
  pub here : slice_get h at ≡ Some r
  pub legal : IsLegal l base before (take at h)

-- the record with index `at` is the first at fault: its serial is not the next one
pub record HasWrongSerial (l : LayoutParts) (base : Memory) (before : ℕ) (h : List Record) (at : ℕ)
    (r : Record) : Type 0 where
  pub first : ComesAt l base before h at r
  pub serial : r.serial ≢ before + at + 1

-- the record with index `at` is the first at fault: its serial is the next one, but its reply is not
-- the one that the definitions give
pub record HasWrongReply (l : LayoutParts) (base : Memory) (before : ℕ) (h : List Record) (at : ℕ)
    (r : Record) : Type 0 where
  pub first : ComesAt l base before h at r
  pub serial : r.serial ≡ before + at + 1
  pub reply : r.reply ≢ reply_of l base before (take at h) r.cpu r.event

-- the fault names the first record at fault, by its index or by its serial; if memory ran
-- out, it claims nothing
abbrev pub IsFault : LayoutParts → Memory → ℕ → List Record → ReplayFault → Type 0
IsFault l base before h (WrongSerial at) = (r : Record) × HasWrongSerial l base before h at r
IsFault l base before h (WrongReply serial) =
    (at : ℕ) × (r : Record) × HasWrongReply l base before h at r × (r.serial ≡ serial)
IsFault l base before h OutOfMemory = Unit {0}

-- the records are not a legal history; if memory ran out, this claims nothing
abbrev pub Refutes : LayoutParts → Memory → ℕ → List Record → ReplayFault → Type 0
Refutes l base before h (WrongSerial at) = IsLegal l base before h → ⊥
Refutes l base before h (WrongReply serial) = IsLegal l base before h → ⊥
Refutes l base before h OutOfMemory = Unit {0}

-- the course of the legal history `h` over the state `start`, after `earlier` earlier records
pub record IsCourseOf (l : LayoutParts) (start : Memory) (earlier : ℕ) (h : List Record)
    (c : CourseValue) : Type 0 where
  pub layout : c.layout ≡ l
  pub before : c.before ≡ earlier
  pub base : c.base ≡ start
  pub history : c.history ≡ h
  pub legal : IsLegal l start earlier h
  pub state : c.state ≡ value_of l start h

-- the record can follow those of the old course, and the new course is the old one with this record
pub record IsFollowed (old : CourseValue) (r : Record) (new : CourseValue) : Type 0 where
  pub follows : Follows old.layout old.base old.before old.history r
  pub history : new.history ≡ old.history ++ r ∷ []
  pub state : new.state ≡ value_of old.layout old.base new.history
  pub layout : new.layout ≡ old.layout
  pub before : new.before ≡ old.before
  pub base : new.base ≡ old.base

-- the fault of the record with index `at`, which comes after those of a course: its serial is
-- not the next one, or its reply is not the one that the definitions give. If memory ran out,
-- this claims nothing
abbrev pub IsFaultHere : CourseValue → (at : ℕ) → Record → ReplayFault → Type 0
IsFaultHere c at r (WrongSerial place) = (place ≡ at) × (r.serial ≢ last_serial c + 1)
IsFaultHere c at r (WrongReply serial) =
    (serial ≡ r.serial) × (r.serial ≡ last_serial c + 1)
    × (r.reply ≢ reply_of c.layout c.base c.before c.history r.cpu r.event)
IsFaultHere c at r OutOfMemory = Unit {0}
