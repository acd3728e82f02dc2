-- The progress of the walk over all schedules.
use Rattle.std.specs.Prelude.{◌≡◌, ℕ, ◌+◌, ◌<◌, ◌≤◌, Bool, true, false, List, [], ◌∷◌, ◌++◌, Option, Some, None, length, drop}
use Rattle.hp_units.specs.History.{Effect, Looks, Undoes, Cancels, Acts}
use Rattle.hp_units.specs.declared.events.Event.{Event}
use Rattle.hp_units.specs.declared.events.Event.TheVariants.{UndoAfter}
use Rattle.hp_units.specs.declared.replies.Record.{Record}
use Rattle.hp_machine.specs.Machine.{MachineValue}
use Rattle.hp_memory.specs.Steps.{StepsValue}
use Rattle.hp_states.specs.Rooms.{HasNoRoom}
use Rattle.hp_states.specs.Walks.{IsAt}
use Rattle.hp_schedules.specs.Schedules.{Setting, next_call, plays, schedule_of}

-- the machine's records since `start`
abbrev pub news_since : MachineValue → MachineValue → List Record
news_since start m = drop (length start.history) m.history

-- the machine's records since the scripts began
abbrev pub news_in : Setting → MachineValue → List Record
news_in g m = drop (length g.start) m.history

-- the schedule of the machine's records since the scripts began
abbrev pub place_of : Setting → MachineValue → List ℕ
place_of g m = schedule_of (news_in g m)

-- the state that a schedule leads to, with its records; None if the schedule cannot be played
abbrev pub LeadsTo : Setting → List ℕ → Option StepsValue → Type 0
LeadsTo g schedule None = plays g schedule ≡ None
LeadsTo g schedule (Some p) = IsAt g p × (schedule_of p.records ≡ schedule)

-- the machine has the setting's layout, base and records, and then its new records. These are the
-- records that their own schedule leads to
pub record IsReached (g : Setting) (m : MachineValue) : Type 0 where
  pub layout : m.layout ≡ g.layout
  pub base : m.base ≡ g.base
  pub before : m.before ≡ g.before
  pub history : m.history ≡ g.start ++ news_in g m
  pub played : plays g (place_of g m) ≡ Some (news_in g m)

-- `n` is the machine `m` after the next call of processor `cpu`, for which the history had room
pub record IsFurther (g : Setting) (m : MachineValue) (cpu : ℕ) (n : MachineValue) : Type 0 where
  pub event : Event
  pub asked : next_call g cpu (news_in g m) ≡ Some event
  pub reached : IsReached g n
  pub place : place_of g n ≡ place_of g m ++ cpu ∷ []
  pub longer : length n.history ≡ length m.history + 1
  pub room : length m.history < m.layout.history

-- either the processor made its next call, or it had no call to make and nothing changed
abbrev pub IsMade : Setting → MachineValue → (cpu : ℕ) → (made : Bool) → MachineValue → Type 0
IsMade g m cpu true n = IsFurther g m cpu n
IsMade g m cpu false n = (next_call g cpu (news_in g m) ≡ None) × (n ≡ m)

-- the machine's history has no room for the processor's next call
abbrev pub FillsAt : Setting → MachineValue → (cpu : ℕ) → Type 0
FillsAt g m cpu = (h : HasNoRoom g (place_of g m)) × (h.cpu ≡ cpu)

-- the next record after the new ones has this serial, and the history has room for it
abbrev pub IsNextSerial : (start : MachineValue) → List Record → (serial : ℕ) → Type 0
IsNextSerial start news serial =
    (serial ≡ start.before + length (start.history ++ news) + 1)
    × (length (start.history ++ news) < start.layout.history)

-- the event undoes the steps above a serial that is at least `serial`, the serial of the next record.
-- Its processor is one of the layout's
abbrev pub IsGone : (start : MachineValue) → (cpu serial : ℕ) → Event → Type 0
IsGone start cpu serial event =
    (kept : ℕ) × (event ≡ UndoAfter kept) × (serial ≤ kept) × (cpu < start.layout.cpus)

-- the same state with one more record, and without deltas (changes noted for undoing)
abbrev pub with_record : StepsValue → Record → StepsValue
with_record p latest =
    record { layout = p.layout; state = p.state; deltas = []; records = p.records ++ latest ∷ [] }

-- the event may lead back to an earlier state
abbrev pub may_go_back : Effect → Bool
may_go_back Looks = false
may_go_back (Undoes serial) = true
may_go_back (Cancels op) = true
may_go_back Acts = false

-- the machine that a schedule leads to; None if the schedule cannot be played
abbrev pub IsPlayed : Setting → List ℕ → Option MachineValue → Type 0
IsPlayed g schedule None = plays g schedule ≡ None
IsPlayed g schedule (Some n) = IsReached g n × (place_of g n ≡ schedule)
