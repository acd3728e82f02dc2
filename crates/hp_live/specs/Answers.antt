-- The answer to a line: the effect of the line, the calls of its plan, and its text.
use Rattle.std.specs.Prelude.{◌≡◌, ◌⊎◌, ℕ, List, [], ◌++◌, length, Some, None}
use Rattle.hp_units.specs.declared.events.Event.{Event}
use Rattle.hp_units.specs.declared.plans.Item.{Item}
use Rattle.hp_units.specs.declared.replies.CallFault.{CallFault}
use Rattle.hp_units.specs.declared.replies.OpEnd.{OpEnd}
use Rattle.hp_units.specs.declared.replies.OpEnd.TheVariants.{Left}
use Rattle.hp_units.specs.declared.replies.Receipt.{Receipt}
use Rattle.hp_units.specs.declared.replies.Reply.{Reply}
use Rattle.hp_history.specs.Course.{receipt_for}
use Rattle.hp_machine.specs.Machine.{IsCalled, MachineValue}
use Rattle.hp_machine.specs.MachinePorts.{HasCause, IsPlanRun}
use Rattle.hp_scenario.specs.Asked as asks
use Rattle.hp_text.specs.Answers.{reply_line, sealed_line, unrecorded_line}
use Rattle.hp_text.specs.FileFaults.{write_fault_line}
use Rattle.hp_text.specs.Plans.{plan_line}
use Rattle.hp_commands.specs.Events.{WritesEvent}
use Rattle.hp_commands.specs.Files.{WritesFile}
use Rattle.hp_commands.specs.Serial.{WritesAsked}
use Rattle.hp_live.specs.declared.answers.Did.{Did}
use Rattle.hp_live.specs.declared.answers.Did.TheVariants as did

-- the answer's text, the receipts of a plan's calls, and the line's effect
pub record AnswerValue : Type 0 where
  pub text : List ℕ
  pub calls : List Receipt
  pub did : Did

-- the text of a line's effect, without the text of a control file
abbrev pub did_text : Did → List ℕ
did_text did.NoLine = []
did_text (did.Event serial reply) = reply_line serial reply
did_text (did.Unrecorded fault) = unrecorded_line fault
did_text (did.Plan end) = plan_line end
did_text (did.NotTaken fault) = write_fault_line fault
did_text did.File = []
did_text (did.Sealed count) = sealed_line count

-- an empty answer
abbrev pub untold : AnswerValue
untold = record { text = []; calls = []; did = did.NoLine }

-- the answer with a line's effect, and the text for it appended
abbrev pub said : AnswerValue → Did → AnswerValue
said a d = record { text = a.text ++ did_text d; calls = a.calls; did = d }

-- the answer with a line's effect and the receipts of its plan's calls
abbrev pub told : Did → List Receipt → AnswerValue
told d calls = record { text = did_text d; calls = calls; did = d }

-- ---- the parts of an answer

-- either the event left a record, and `d` has its serial and its reply; or it left none, the
-- machine is the same, and `d` has a fault
abbrev pub IsEventTold : MachineValue → (cpu : ℕ) → Event → Did → (new : MachineValue) → Type 0
IsEventTold m cpu event d new =
    ((serial : ℕ) × (reply : Reply) × (d ≡ did.Event serial reply)
    × IsCalled m cpu event (receipt_for event (serial, reply)) new)
    ⊎ ((fault : CallFault) × (d ≡ did.Unrecorded fault) × (new ≡ m))

-- the plan was run: the answer has its end and the receipts of its calls
abbrev pub IsPlanTold : MachineValue → (cpu turns : ℕ) → List Item → AnswerValue → (new : MachineValue)
    → Type 0
IsPlanTold m cpu turns items a new =
    (end : OpEnd) × (run : IsPlanRun m cpu turns items end new) × (a ≡ told (did.Plan end) run.receipts)

-- the answer has the parts for the work that a line asks for
abbrev pub IsTold : MachineValue → (cpu : ℕ) → asks.Meaning → AnswerValue → (new : MachineValue) → Type 0
IsTold m cpu (asks.event event) a new = (a ≡ told a.did []) × IsEventTold m cpu event a.did new
IsTold m cpu (asks.plan items turns) a new = IsPlanTold m cpu turns items a new
IsTold m cpu (asks.not_taken fault) a new = a ≡ told (did.NotTaken fault) []
IsTold m cpu (asks.cat path) a new = a ≡ record { text = a.text; calls = []; did = did.File }
IsTold m cpu asks.seal a new = a ≡ told (did.Sealed (length m.history)) []

-- the answer to a line's work, and the machine after it. The text is the one that `hotplug serial`
-- writes, and the parts agree with it
abbrev pub Answers : MachineValue → (cpu : ℕ) → asks.Meaning → AnswerValue → (new : MachineValue) → Type 0
Answers m cpu meaning a new = WritesAsked m cpu meaning a.text new × IsTold m cpu meaning a new

-- `d` is the effect of the line's event; nothing is claimed of a line without an event
abbrev pub IsDid : MachineValue → (cpu : ℕ) → asks.Meaning → Did → (new : MachineValue) → Type 0
IsDid m cpu (asks.event event) d new = IsEventTold m cpu event d new
IsDid m cpu meaning d new = Unit {0}

-- the line's work was done, whatever text was written for it
abbrev pub IsDone : MachineValue → (cpu : ℕ) → asks.Meaning → Did → (new : MachineValue) → Type 0
IsDone m cpu meaning d new =
    (text : List ℕ) × WritesAsked m cpu meaning text new × IsDid m cpu meaning d new

-- ---- steps of an answer

-- the event was called, and `d` is its effect
abbrev pub IsEventDone : MachineValue → (cpu : ℕ) → Event → Did → (new : MachineValue) → Type 0
IsEventDone m cpu event d new =
    WritesEvent m cpu event (did_text d) new × IsEventTold m cpu event d new

-- the plan was run to this end. The answer has the receipts of its calls, and nothing else yet
abbrev pub IsPlanKept : MachineValue → (cpu turns : ℕ) → List Item → OpEnd → AnswerValue
    → (new : MachineValue) → Type 0
IsPlanKept m cpu turns items end a new =
    (run : IsPlanRun m cpu turns items end new)
    × (a ≡ record { text = []; calls = run.receipts; did = did.NoLine })

-- the plan ended before its first call, and `end` has the reason
abbrev pub IsLeft : MachineValue → OpEnd → Type 0
IsLeft m end = (fault : CallFault) × HasCause (Some fault) m × (end ≡ Left None fault)

-- a file was read: the answer has its text, or the reason why there is none
abbrev pub IsFileTold : MachineValue → (path : List ℕ) → AnswerValue → Type 0
IsFileTold m path a =
    WritesFile m path a.text × (a ≡ record { text = a.text; calls = []; did = did.File })
