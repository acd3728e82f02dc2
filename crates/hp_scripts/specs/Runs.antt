-- The effect of a line on the machine, and the number of its result.
use Rattle.std.specs.Prelude.{◌≡◌, ◌⊎◌, ℕ, Bool, true, false, List}
use Rattle.hp_units.specs.declared.events.Event.{Event}
use Rattle.hp_units.specs.declared.plans.Item.{Item}
use Rattle.hp_units.specs.declared.replies.CallFault.TheVariants.{OutOfMemory}
use Rattle.hp_units.specs.declared.replies.OpEnd.{OpEnd}
use Rattle.hp_units.specs.declared.replies.OpEnd.TheVariants.{Left}
use Rattle.hp_units.specs.declared.replies.Receipt.{Receipt}
use Rattle.hp_machine.specs.Machine.{IsCalled, MachineValue, is_full, sealed}
use Rattle.hp_machine.specs.MachinePorts.{IsPlanRun}
use Rattle.hp_scenario.specs.Asked as asks
use Rattle.hp_scenario.specs.declared.lines.Line.{Line}
use Rattle.hp_scripts.specs.Results.{missing_number, result_number}

-- one call was made with an event, and its result has this number. If the history is full, the
-- machine stays as it is
abbrev pub RunsEvent : MachineValue → (cpu : ℕ) → Event → (new : MachineValue) → (number : ℕ) → Type 0
RunsEvent m cpu event new number =
    ((is_full m ≡ true) × (new ≡ m) × (number ≡ missing_number event))
    ⊎ ((r : Receipt) × (is_full m ≡ false) × IsCalled m cpu event r new
    × (number ≡ result_number event r.serial r.reply))

-- the plan was left because memory ran out
abbrev pub is_out_of_memory : OpEnd → Bool
is_out_of_memory (Left op OutOfMemory) = true
is_out_of_memory end = false

-- a plan was carried out, and memory did not run out
abbrev pub RunsPlan : MachineValue → (cpu turns : ℕ) → List Item → (new : MachineValue) → Type 0
RunsPlan m cpu turns plan new =
    (end : OpEnd) × IsPlanRun m cpu turns plan end new × (is_out_of_memory end ≡ false)

-- a line's work was done, and its result has this number, which is 0 for all but an event. A text
-- that a control file does not take changes nothing
abbrev pub RunsAsked : MachineValue → (cpu : ℕ) → asks.Meaning → (new : MachineValue) → (number : ℕ) → Type 0
RunsAsked m cpu (asks.event e) new number = RunsEvent m cpu e new number
RunsAsked m cpu (asks.plan items turns) new number = RunsPlan m cpu turns items new × (number ≡ 0)
RunsAsked m cpu (asks.not_taken fault) new number = (new ≡ m) × (number ≡ 0)
RunsAsked m cpu (asks.cat path) new number = (new ≡ m) × (number ≡ 0)
RunsAsked m cpu asks.seal new number = (new ≡ sealed m) × (number ≡ 0)

-- a line was run, and its result has this number
abbrev pub RunsLine : MachineValue → Line → (new : MachineValue) → (number : ℕ) → Type 0
RunsLine m line new number = RunsAsked m line.cpu (asks.asked_by line.work) new number
