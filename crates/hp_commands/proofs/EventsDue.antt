-- An event's line: the state after it, and when its text is the one that is due.
use Rattle.std.proofs.Common.{◌≡◌, ℕ, Bool, true, false, List, ◌++◌, codes, if◌then◌else◌, refl, inl, inr}
use Rattle.hp_units.specs.History.{value_of}
use Rattle.hp_units.specs.declared.events.Event.{Event}
use Rattle.hp_units.specs.declared.replies.CallFault.TheVariants.{OutOfMemory}
use Rattle.hp_units.specs.declared.replies.Record.{Record}
use Rattle.hp_machine.specs.Machine.{MachineValue, is_full}
use Rattle.hp_commands.specs.Events.{WritesEvent, event_text, machine_after_event, next_record, with_record}
use Rattle.hp_text.specs.Answers.{unrecorded_line}
use Rattle.hp_commands.specs.Serial.{IsWhole}
use Rattle.hp_commands.proofs.Whole.{not_whole}

-- the state is the one that the history leads to
abbrev pub IsUpToDate : MachineValue → Type 0
IsUpToDate m = m.state ≡ value_of m.layout m.base m.history

-- one more record, or none
choice_is : (b : Bool) (m : MachineValue) (r : Record) → IsUpToDate m
    → IsUpToDate (if b then m else with_record m r)
choice_is true m r h = h
choice_is false m r h = refl

event_next : (m : MachineValue) (cpu : ℕ) (event : Event) → IsUpToDate m
    → IsUpToDate (machine_after_event m cpu event)
unfolding machine_after_event
event_next m cpu event h = choice_is (is_full m) m (next_record m cpu event) h

pub event_is : (m : MachineValue) (cpu : ℕ) (event : Event) (text : List ℕ) (new : MachineValue)
    → IsUpToDate m → WritesEvent m cpu event text new → IsUpToDate new
event_is m cpu event text new h (inl w) = rw w.1 (event_next m cpu event h)
event_is m cpu event text new h (inr w) = rw w.2 h

-- in a whole text an event wrote what is due: a text that says out of memory isn't whole
pub event_due : (m : MachineValue) (cpu : ℕ) (event : Event) (text : List ℕ) (new : MachineValue)
    (rest : List ℕ)
    → WritesEvent m cpu event text new → IsWhole (text ++ rest)
    → (text ≡ event_text m cpu event) × (new ≡ machine_after_event m cpu event)
event_due m cpu event text new rest (inl w) whole = w
event_due m cpu event text new rest (inr w) whole =
    absurd (not_whole (unrecorded_line OutOfMemory ++ rest) (codes "-: fault ") rest refl (rw w.1 at whole))
