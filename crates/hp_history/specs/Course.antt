-- The value of a journal and of a course, what both keep, and what replying to an event does.
use Rattle.std.specs.Prelude.{ℕ, ◌≡◌, ◌+◌, ◌⊎◌, Bool, true, List, [], ◌∷◌, ◌++◌, length, nat_le}
use Rattle.hp_units.specs.LayoutParts.{LayoutParts}
use Rattle.hp_units.specs.Memory.{Memory}
use Rattle.hp_units.specs.History.{IsLegal, goes_back, reply_of, value_of}
use Rattle.hp_units.specs.declared.events.Event.{Event}
use Rattle.hp_units.specs.declared.events.Event.TheVariants.{UndoAfter}
use Rattle.hp_units.specs.declared.replies.Record.{Record}
use Rattle.hp_units.specs.declared.replies.Receipt.{Receipt}
use Rattle.hp_units.specs.declared.replies.Reply.{Reply}

-- `before` is the number of all earlier records, `base` the state that the history began with
pub record CourseValue : Type 0 where
  pub layout : LayoutParts
  pub before : ℕ
  pub base : Memory
  pub history : List Record
  pub state : Memory

-- a course with no record of its own yet: it starts from `base`, after `before` earlier records
abbrev pub started : LayoutParts → Memory → (before : ℕ) → CourseValue
started l base before = record { layout = l; before = before; base = base; history = []; state = base }

-- the history is legal, and those of its steps that are not undone lead from the base to the state
pub record IsHistory (c : CourseValue) : Type 0 where
  pub legal : IsLegal c.layout c.base c.before c.history
  pub state : c.state ≡ value_of c.layout c.base c.history

-- the last serial so far
abbrev pub last_serial : CourseValue → ℕ
last_serial c = c.before + length c.history

-- no serial is left
abbrev pub is_spent : CourseValue → Bool
is_spent c = nat_le 18446744073709551615 (c.before + length c.history)

-- the event needs no memory: it is an undo, refused or not, or its reply is that an earlier state
-- is back
abbrev pub NeedsNoMemory : CourseValue → (cpu : ℕ) → Event → Type 0
NeedsNoMemory c cpu event =
    ((serial : ℕ) × (event ≡ UndoAfter serial))
    ⊎ (goes_back (reply_of c.layout c.base c.before c.history cpu event) ≡ true)

-- the record of a receipt
abbrev pub record_of : ℕ → Receipt → Record
record_of cpu r = record { serial = r.serial; cpu = cpu; event = r.event; reply = r.reply }

-- the receipt of an event, from the serial of its record and the reply
abbrev pub receipt_for : Event → ℕ × Reply → Receipt
receipt_for event answer = record { serial = answer.0; event = event; reply = answer.1 }

-- a call with a processor's event: one record is appended, with the next serial and the reply that
-- the definitions give. The new state is that of the longer history
pub record IsAnswered (old : CourseValue) (cpu : ℕ) (event : Event) (r : Receipt)
    (new : CourseValue) : Type 0 where
  pub serial : r.serial ≡ last_serial old + 1
  pub asked : r.event ≡ event
  pub reply : r.reply ≡ reply_of old.layout old.base old.before old.history cpu event
  pub history : new.history ≡ old.history ++ record_of cpu r ∷ []
  pub state : new.state ≡ value_of old.layout old.base new.history
  pub legal : IsLegal old.layout old.base old.before new.history
  pub layout : new.layout ≡ old.layout
  pub before : new.before ≡ old.before
  pub base : new.base ≡ old.base
