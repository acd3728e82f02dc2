-- The text of an event, and what it makes of the machine.
use Rattle.std.specs.Prelude.{◌≡◌, ◌⊎◌, ℕ, ◌+◌, false, if◌then◌else◌, List, [], ◌∷◌, ◌++◌}
use Rattle.hp_units.specs.declared.events.Event.{Event}
use Rattle.hp_units.specs.declared.replies.CallFault.TheVariants.{HistoryFull, OutOfMemory}
use Rattle.hp_units.specs.declared.replies.Record.{Record}
use Rattle.hp_units.specs.History.{reply_of, value_of}
use Rattle.hp_machine.specs.Machine.{MachineValue, is_full, last_serial}
use Rattle.hp_text.specs.Answers.{reply_line, unrecorded_line}

-- the record that a processor's event makes after a machine's history
abbrev pub next_record : MachineValue → (cpu : ℕ) → Event → Record
next_record m cpu event =
    record {
      serial = last_serial m + 1;
      cpu = cpu;
      event = event;
      reply = reply_of m.layout m.base m.before m.history cpu event;
    }

-- the machine with one more record, in the state of the longer history
abbrev pub with_record : MachineValue → Record → MachineValue
with_record m r =
    record m { history = m.history ++ r ∷ []; state = value_of m.layout m.base (m.history ++ r ∷ []) }

-- the text of an event, and the machine after it, if memory does not run out
unfoldable pub event_text : MachineValue → (cpu : ℕ) → Event → List ℕ
event_text m cpu event =
    if is_full m then unrecorded_line HistoryFull else reply_line (next_record m cpu event).serial
    (next_record m cpu event).reply

unfoldable pub machine_after_event : MachineValue → (cpu : ℕ) → Event → MachineValue
machine_after_event m cpu event = if is_full m then m else with_record m (next_record m cpu event)

-- the text is `due` and the machine is `next`; or memory ran out although there was room, the text
-- reports that, and the machine is as it was
abbrev pub Writes : MachineValue → (due : List ℕ) → (next : MachineValue) → (text : List ℕ)
    → (new : MachineValue) → Type 0
Writes m due next text new =
    ((text ≡ due) × (new ≡ next)) ⊎ ((is_full m ≡ false) × (text ≡ unrecorded_line OutOfMemory) × (new ≡ m))

-- the machine was called with an event, and the text has the reply or the fault
abbrev pub WritesEvent : MachineValue → (cpu : ℕ) → Event → (text : List ℕ) → (new : MachineValue) → Type 0
WritesEvent m cpu event text new =
    Writes m (event_text m cpu event) (machine_after_event m cpu event) text new
