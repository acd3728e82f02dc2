-- An event that was called: its text, and the machine after it.
use Rattle.std.proofs.Common.{arith, ◌≡◌, ℕ, true, false, Some, Ok}
use Rattle.hp_units.specs.declared.events.Event.{Event}
use Rattle.hp_units.specs.declared.replies.CallFault.{CallFault}
use Rattle.hp_units.specs.declared.replies.CallFault.TheVariants.{HistoryFull}
use Rattle.hp_units.specs.declared.replies.Receipt.{Receipt}
use Rattle.hp_units.specs.declared.replies.Reply.{Reply}
use Rattle.hp_history.specs.Course.{receipt_for}
use Rattle.hp_machine.specs.Machine.{IsCalled, MachineValue, is_full}
use Rattle.hp_machine.specs.MachinePorts.{HasCause}
use Rattle.hp_machine.proofs.MachineCalls.{TellsFull, called_once}
use Rattle.hp_commands.specs.Events.{WritesEvent, event_text, machine_after_event, next_record, with_record}
use Rattle.hp_text.specs.Answers.{reply_line, unrecorded_line}
use Rattle.hp_live.specs.Answers.{IsEventDone}
use Rattle.hp_live.specs.declared.answers.Did.TheVariants as did

-- the machine is the one with the next record
pub machine_of : (m new : MachineValue) (cpu : ℕ) (event : Event) (r : Receipt) → IsCalled m cpu event r new
    → new ≡ with_record m (next_record m cpu event)
machine_of m new cpu event r called = grind arith

-- its text is that of the next record
line_is : (m new : MachineValue) (cpu : ℕ) (event : Event) (answer : ℕ × Reply)
    → IsCalled m cpu event (receipt_for event answer) new
    → reply_line answer.0 answer.1
    ≡ reply_line (next_record m cpu event).serial (next_record m cpu event).reply
line_is m new cpu event answer called = rw (called.serial, called.reply)

-- where there is room, both are due
pub due_with_room : (m : MachineValue) (cpu : ℕ) (event : Event) → is_full m ≡ false
    → (event_text m cpu event ≡ reply_line (next_record m cpu event).serial (next_record m cpu event).reply)
    × (machine_after_event m cpu event ≡ with_record m (next_record m cpu event))
unfolding event_text machine_after_event
due_with_room m cpu event room = grind arith

pub due_when_full : (m : MachineValue) (cpu : ℕ) (event : Event) → is_full m ≡ true
    → (event_text m cpu event ≡ unrecorded_line HistoryFull) × (machine_after_event m cpu event ≡ m)
unfolding event_text machine_after_event
due_when_full m cpu event full = grind arith

pub event_recorded : (m new : MachineValue) (cpu : ℕ) (event : Event) (answer : ℕ × Reply)
    → TellsFull {A = ℕ × Reply} (Ok answer) (is_full m) → IsCalled m cpu event (receipt_for event answer) new
    → IsEventDone m cpu event (did.Event answer.0 answer.1) new
event_recorded m new cpu event answer tells called =
    grind (arith, called_once, due_with_room, line_is, machine_of)

unrecorded : (m : MachineValue) (cpu : ℕ) (event : Event) (fault : CallFault) → HasCause (Some fault) m
    → WritesEvent m cpu event (unrecorded_line fault) m
unrecorded m cpu event fault cause = grind (arith, due_when_full)

pub event_unrecorded : (m new : MachineValue) (cpu : ℕ) (event : Event) (fault : CallFault)
    → HasCause (Some fault) m → new ≡ m → IsEventDone m cpu event (did.Unrecorded fault) new
event_unrecorded m new cpu event fault cause same = grind (arith, unrecorded)
