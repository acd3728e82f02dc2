-- The names of results in a session.
use Rattle.std.specs.Prelude.{◌≡◌, ◌⊎◌, ℕ, List, length, Option, Some, None, option_map, slice_get, if◌then◌else◌}
use Rattle.std.specs.Map.{lookup}
use Rattle.std.specs.Str.{bytes_eq}
use Rattle.hp_units.specs.declared.events.Event.{Event}
use Rattle.hp_units.specs.declared.replies.Reply.{Reply}
use Rattle.hp_machine.specs.Machine.{MachineValue, is_full}
use Rattle.hp_commands.specs.Events.{next_record}
use Rattle.hp_scripts.specs.Bindings.{Bound, bound_to}
use Rattle.hp_scripts.specs.Plain.{plain_in}
use Rattle.hp_scripts.specs.Results.{missing_number, result_number}
use Rattle.hp_scripts.specs.declared.bindings.Naming.{Naming}
use Rattle.hp_scripts.specs.declared.plain.PlainLine.{PlainLine}
use Rattle.hp_scenario.specs.Asked as asks
use Rattle.hp_scenario.specs.Names.{Numbered, line_in}
use Rattle.hp_scenario.specs.declared.lines.Line.{Line}
use Rattle.hp_live.specs.declared.answers.Did.{Did}
use Rattle.hp_live.specs.declared.answers.Did.TheVariants as did

-- ---- a text

-- a line with plain numbers, the owners' names after it, and the name that it gives its result, if
-- any
pub record Typed : Type 0 where
  pub numbered : Numbered
  pub naming : Option Naming

-- the line with the name of its result, if there is a line
abbrev pub typed_of : PlainLine → Option Numbered → Option Typed
typed_of plain n = option_map (λ n. record { numbered = n; naming = plain.naming }) n

-- the line in a text whose names for results were replaced by numbers, with the name of its own result;
-- None if the text cannot be read as a line. `names` are the owners so far
abbrev pub typed_by : (names : List (List ℕ)) → PlainLine → Option Typed
typed_by names plain = typed_of plain (line_in names plain.text)

-- the line in a text, if it is one. `names` are the owners so far, and `bound` are the results that
-- have names
abbrev pub typed_in : (names : List (List ℕ)) → Bound → (text : List ℕ) → Option Typed
typed_in names bound text = typed_by names (plain_in bound text)

-- ---- the number of a result

-- the number of the result of an event; `left` has the serial and the reply of the record that it left,
-- if it left one
abbrev pub event_result : Event → Option (ℕ × Reply) → ℕ
event_result e None = missing_number e
event_result e (Some left) = result_number e left.0 left.1

-- the number of the result of a line; 0 if the line calls no event
abbrev pub number_of : asks.Meaning → Option (ℕ × Reply) → ℕ
number_of (asks.event e) left = event_result e left
number_of m left = 0

-- the serial and the reply in a line's effect; None unless the line's event left a record
abbrev pub left_by : Did → Option (ℕ × Reply)
left_by (did.Event serial reply) = Some (serial, reply)
left_by d = None

-- the number of the result of a line whose effect is `d`; 0 if the line calls no event
abbrev pub number_asked : asks.Meaning → Did → ℕ
number_asked m d = number_of m (left_by d)

-- the serial and the reply of the record at index `before` of a machine's history, if there is one
abbrev pub left_in : MachineValue → (before : ℕ) → Option (ℕ × Reply)
left_in m before = option_map (λ r. (r.serial, r.reply)) (slice_get m.history before)

-- the number of the result of a line, by the machines before and after it; 0 if the line calls no
-- event
abbrev pub number_left : asks.Meaning → (before after : MachineValue) → ℕ
number_left m before after = number_of m (left_in after (length before.history))

-- the serial and the reply of the record that a line's event leaves if `hotplug serial` calls it on
-- this machine; None if it leaves none
abbrev pub left_next : MachineValue → (cpu : ℕ) → asks.Meaning → Option (ℕ × Reply)
left_next m cpu (asks.event e) =
    if is_full m then None else Some ((next_record m cpu e).serial, (next_record m cpu e).reply)
left_next m cpu meaning = None

-- the number of the result of what a line asks for, if `hotplug serial` does it on this machine
abbrev pub asked_number : MachineValue → (cpu : ℕ) → asks.Meaning → ℕ
asked_number m cpu meaning = number_of meaning (left_next m cpu meaning)

-- the number of the result of a line, if `hotplug serial` runs it on this machine
abbrev pub line_number : MachineValue → Line → ℕ
line_number m line = asked_number m line.cpu (asks.asked_by line.work)

-- ---- when memory runs out

-- the bindings after a line. Without a naming they stay. Otherwise the result has the name; or
-- there was no memory for a new name, and no result has it
abbrev pub IsKnown : Bound → Option Naming → (line number : ℕ) → (new : Bound) → Type 0
IsKnown old None line number new = new ≡ old
IsKnown old (Some naming) line number new =
    (new ≡ bound_to old naming line number) ⊎ ((new ≡ old) × (lookup (bytes_eq naming.key) old ≡ None))
