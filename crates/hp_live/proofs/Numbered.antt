-- Lines that are run for the numbers of their results run as `serial` runs them.
use Rattle.std.proofs.Common.{◌≡◌, ◌∙◌, ℕ, true, false, List, [], ◌∷◌, ◌++◌, Option, Some, None, drop, sym, ap, inl, inr}
use Rattle.hp_units.specs.Driver.{Ends}
use Rattle.hp_units.specs.declared.events.Event.{Event}
use Rattle.hp_units.specs.declared.plans.Item.{Item}
use Rattle.hp_units.specs.declared.replies.CallFault.{CallFault}
use Rattle.hp_units.specs.declared.replies.CallFault.TheVariants.{HistoryFull, OutOfMemory}
use Rattle.hp_units.specs.declared.replies.OpEnd.{OpEnd}
use Rattle.hp_units.specs.declared.replies.Receipt.{Receipt}
use Rattle.hp_machine.specs.Machine.{MachineValue}
use Rattle.hp_scenario.specs.Asked as asks
use Rattle.hp_scenario.specs.declared.lines.Line.{Line}
use Rattle.hp_scripts.specs.Resolved.{RunsFront, first_source, line_after}
use Rattle.hp_scripts.specs.Runs.{RunsAsked, RunsEvent, RunsLine, RunsPlan, is_out_of_memory}
use Rattle.hp_commands.specs.Events.{machine_after_event}
use Rattle.hp_commands.specs.Plans.{PlanRun, plan_run}
use Rattle.hp_commands.specs.Serial.{machine_after, machine_after_asked, machine_after_lines}
use Rattle.hp_commands.proofs.PlansDue.{IsNotOutOfMemory, run_due}
use Rattle.hp_live.specs.Results.{asked_number, line_number}
use Rattle.hp_live.proofs.Called.{due_when_full, due_with_room, machine_of}

-- ---- one line

event_as_serial : (m next : MachineValue) (cpu : ℕ) (e : Event) (number : ℕ) → RunsEvent m cpu e next number
    → (next ≡ machine_after_event m cpu e) × (number ≡ asked_number m cpu (asks.event e))
event_as_serial m next cpu e number (inl h) = (h.1 ∙ sym (due_when_full m cpu e h.0).1, rw h.0 h.2)
event_as_serial m next cpu e number (inr h) =
    (rw (due_with_room m cpu e h.1).1 (machine_of m next cpu e h.0 h.2), rw (h.1, h.3, h.2.serial, h.2.reply))

-- a run that does not end for want of memory was never short of it
memory_lasts : (receipts : List Receipt) (next : Option Event) (fault : Option CallFault) (end : OpEnd)
    → Ends receipts next fault end → is_out_of_memory end ≡ false → IsNotOutOfMemory fault
memory_lasts receipts next None end ends lasts = tt
memory_lasts receipts next (Some HistoryFull) end ends lasts = tt
memory_lasts receipts None (Some OutOfMemory) end ends lasts = absurd ends
memory_lasts receipts (Some event) (Some OutOfMemory) end ends lasts =
    let told : true ≡ false = sym (ap is_out_of_memory ends) ∙ lasts in absurd cc

plan_as_serial : (m next : MachineValue) (cpu turns : ℕ) (plan : List Item) → RunsPlan m cpu turns plan next
    → next ≡ (plan_run m cpu turns plan).machine
plan_as_serial m next cpu turns plan h =
    let lasts = memory_lasts h.1.receipts _ h.1.fault h.0 h.1.run.ends h.2 in
    sym (ap (λ (r : PlanRun). r.machine) (run_due m cpu turns plan h.0 next h.1 lasts))

asked_as_serial : (m next : MachineValue) (cpu : ℕ) (meaning : asks.Meaning) (number : ℕ)
    → RunsAsked m cpu meaning next number
    → (next ≡ machine_after_asked m cpu meaning) × (number ≡ asked_number m cpu meaning)
asked_as_serial m next cpu (asks.event e) number h = event_as_serial m next cpu e number h
asked_as_serial m next cpu (asks.plan items turns) number h =
    (plan_as_serial m next cpu turns items h.0, h.1)
asked_as_serial m next cpu meaning number h = h

pub line_as_serial : (m : MachineValue) (line : Line) (next : MachineValue) (number : ℕ)
    → RunsLine m line next number → (next ≡ machine_after m line) × (number ≡ line_number m line)
line_as_serial m line next number h =
    asked_as_serial m next line.cpu (asks.asked_by line.work) number h

-- ---- lines in order

pub front_as_serial : (m new : MachineValue) (before after : List ℕ) (sources : List (Option ℕ))
    (lines ran : List Line) → RunsFront m before sources lines ran new after
    → new ≡ machine_after_lines m ran
unfolding machine_after_lines
front_as_serial m new before after sources [] ran h = rw h.0 h.1
front_as_serial m new before after sources (line ∷ lines) ran h =
    let here = line_after before (first_source sources) line in
    let step = line_as_serial m here h.0 h.1 h.4 in
    let rest = front_as_serial h.0 new (before ++ h.1 ∷ []) after (drop 1 sources) lines h.2 h.5 in
    rw h.3 (rest ∙ ap (λ (k : MachineValue). machine_after_lines k h.2) step.0)
