-- The rows that a line makes, and the machine after it.
use Rattle.std.specs.Prelude.{ℕ, ◌≡◌, ◌⊎◌, true, false, List, [], ◌∷◌, ◌++◌, codes, length, Option, Some, None, Result, Ok, Err, ⊤}
use Rattle.std.specs.Fmt.{decimal}
use Rattle.hp_units.specs.Driver.{IsDriverRun}
use Rattle.hp_units.specs.Texts.{reply_text}
use Rattle.hp_units.specs.declared.events.Event.{Event}
use Rattle.hp_units.specs.declared.plans.Item.{Item}
use Rattle.hp_units.specs.declared.replies.CallFault.{CallFault}
use Rattle.hp_units.specs.declared.replies.CallFault.TheVariants.{HistoryFull, OutOfMemory}
use Rattle.hp_units.specs.declared.replies.OpEnd.{OpEnd}
use Rattle.hp_units.specs.declared.replies.Receipt.{Receipt}
use Rattle.hp_units.specs.declared.replies.Reply.{Reply}
use Rattle.hp_units.specs.declared.replies.Reply.TheVariants.{Moved}
use Rattle.hp_requests.specs.declared.fault.ControlFault.{ControlFault}
use Rattle.hp_text.specs.ControlFiles.{file_text}
use Rattle.hp_machine.specs.Machine.{MachineValue, IsCalled, is_full, sealed}
use Rattle.hp_scenario.specs.Asked as asks
use Rattle.hp_map.specs.declared.row_picture.Move.{Move}
use Rattle.hp_text.specs.Answers.{sealed_line, unrecorded_line}
use Rattle.hp_text.specs.FileFaults.{read_fault_line, write_fault_line}
use Rattle.hp_text.specs.Plans.{plan_line}
use Rattle.hp_text.specs.Spelling.{event_text}
use Rattle.hp_trace.specs.declared.calls.Remark.{Remark}
use Rattle.hp_trace.specs.declared.calls.Remark.TheVariants.{Full, Sealed, Unread, Untaken}
use Rattle.hp_trace.specs.Rows.{Row, drawing, noted, words}

-- ---- a text below a row

-- the text of a remark below a row
abbrev pub remark_text : Remark → List ℕ
remark_text Full = unrecorded_line HistoryFull
remark_text (Untaken fault) = write_fault_line fault
remark_text (Unread fault) = read_fault_line fault
remark_text (Sealed count) = sealed_line count

-- ---- one call

-- a call's serial and its reply
abbrev pub answer_text : Receipt → List ℕ
answer_text r = decimal r.serial ++ codes ": " ++ reply_text r.reply

-- the page that a call moved; None if it moved none
abbrev pub moved_of : Reply → Option Move
moved_of (Moved from to) = Some (record { from = from; to = to })
moved_of _ = None

-- either the call was made, and has a row, or the history is full and a text below the row reports
-- this
abbrev pub MakesEvent : MachineValue → (cpu : ℕ) → Event → (asked : List ℕ) → (rows : List Row)
    → (after : MachineValue) → Type 0
MakesEvent m cpu event asked rows after =
    ((r : Receipt) × (is_full m ≡ false) × IsCalled m cpu event r after
    × (rows ≡ drawing asked (answer_text r) (moved_of r.reply) after ∷ []))
    ⊎ ((is_full m ≡ true) × (after ≡ m) × (rows ≡ noted m asked (unrecorded_line HistoryFull)))

-- ---- a plan

-- the text for a call of a plan's driver, which has no line of its own. The call accesses no page,
-- so the text needs no owners' names
abbrev pub step_text : Event → List ℕ
step_text event = codes "     " ++ event_text [] event

-- the processor made calls, one after another, which gave these receipts; `rows` has a row for each
abbrev pub MakesSteps : (cpu : ℕ) → MachineValue → List Receipt → (rows : List Row) → (after : MachineValue)
    → Type 0
MakesSteps cpu m [] rows after = (after ≡ m) × (rows ≡ [])
MakesSteps cpu m (r ∷ rs) rows after =
    (next : MachineValue) × (rest : List Row) × (is_full m ≡ false) × IsCalled m cpu r.event r next
    × (rows ≡ drawing (step_text r.event) (answer_text r) (moved_of r.reply) next ∷ rest)
    × MakesSteps cpu next rs rest after

-- if a fault ended the plan's driver early, it is `HistoryFull`, and the history is full
abbrev pub IsStop : Option CallFault → MachineValue → Type 0
IsStop None m = ⊤
IsStop (Some HistoryFull) m = is_full m ≡ true
IsStop (Some OutOfMemory) m = ⊥

-- the plan's driver ran, and the plan ended with `end`; `rows` has a row for each of its calls
pub record IsDriven (m : MachineValue) (cpu turns : ℕ) (plan : List Item) (end : OpEnd) (rows : List Row)
    (after : MachineValue) : Type 0 where
  pub receipts : List Receipt
  pub fault : Option CallFault
  pub steps : MakesSteps cpu m receipts rows after
  pub stop : IsStop fault after
  pub run : IsDriverRun m.layout.cpus turns plan receipts fault end

-- a plan makes a row of the memory before it, the rows of its calls, and a text with its end
pub record MakesPlan (m : MachineValue) (cpu turns : ℕ) (plan : List Item) (asked : List ℕ) (rows : List Row)
    (after : MachineValue) : Type 0 where
  pub steps : List Row
  pub end : OpEnd
  pub driven : IsDriven m cpu turns plan end steps after
  pub is : rows ≡ drawing asked [] None m ∷ (steps ++ words (plan_line end) ∷ [])

-- ---- control files

-- the rows for a control file: either with its text, or with the fault of reading it
abbrev pub file_rows : MachineValue → Result (List ℕ) ControlFault → (asked : List ℕ) → List Row
file_rows m (Ok text) asked = noted m asked text
file_rows m (Err fault) asked = noted m asked (read_fault_line fault)

-- ---- a seal

-- the records were handed out, and a text below the row reports their number
abbrev pub MakesSeal : MachineValue → (asked : List ℕ) → (rows : List Row) → (after : MachineValue) → Type 0
MakesSeal m asked rows after =
    (after ≡ sealed m) × (rows ≡ noted after asked (sealed_line (length m.history)))

-- ---- the work that a line asks for

-- the line's work was done. If a control file does not take its word, a text below the row reports
-- that
abbrev pub MakesWork : MachineValue → (cpu : ℕ) → asks.Meaning → (asked : List ℕ) → (rows : List Row)
    → (after : MachineValue) → Type 0
MakesWork m cpu (asks.event e) asked rows after = MakesEvent m cpu e asked rows after
MakesWork m cpu (asks.plan items turns) asked rows after = MakesPlan m cpu turns items asked rows after
MakesWork m cpu (asks.not_taken fault) asked rows after =
    (after ≡ m) × (rows ≡ noted m asked (write_fault_line fault))
MakesWork m cpu (asks.cat path) asked rows after =
    (after ≡ m) × (rows ≡ file_rows m (file_text m.layout m.state path) asked)
MakesWork m cpu asks.seal asked rows after = MakesSeal m asked rows after
