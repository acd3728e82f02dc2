-- What the run of a plan's driver makes of a machine, and its text.
use Rattle.std.specs.Prelude.{◌≡◌, ℕ, zero, suc, ◌-◌, Bool, true, false, List, [], ◌∷◌, ◌++◌, length, Option, Some, None, unwrap_or}
use Rattle.hp_units.specs.declared.events.Event.{Event}
use Rattle.hp_units.specs.declared.plans.Item.{Item}
use Rattle.hp_units.specs.declared.replies.CallFault.{CallFault}
use Rattle.hp_units.specs.declared.replies.CallFault.TheVariants.{HistoryFull}
use Rattle.hp_units.specs.declared.replies.OpEnd.{OpEnd}
use Rattle.hp_units.specs.declared.replies.OpEnd.TheVariants.{Undone, Left}
use Rattle.hp_units.specs.declared.replies.Receipt.{Receipt}
use Rattle.hp_units.specs.Driver.{end_of, next_event, operation_of}
use Rattle.hp_units.specs.Receipts.{receipt_of}
use Rattle.hp_machine.specs.Machine.{MachineValue, is_full}
use Rattle.hp_machine.specs.MachinePorts.{IsPlanRun}
use Rattle.hp_commands.specs.Events.{next_record, with_record}
use Rattle.hp_text.specs.Plans.{plan_line}

-- ---- a run that never runs out of memory

-- a run: its receipts, the machine after them, and the fault of its last call
pub record PlanRun : Type 0 where
  pub receipts : List Receipt
  pub machine : MachineValue
  pub fault : Option CallFault

-- a run with an event to come goes on if the history has room, and otherwise ends with the fault
-- HistoryFull; a run without an event to come has ended
unfoldable pub going_on : List Receipt → MachineValue → (more : Event → PlanRun) → (full : Bool)
    → Option Event → PlanRun
going_on receipts m more full None = record { receipts = receipts; machine = m; fault = None }
going_on receipts m more true (Some event) =
    record { receipts = receipts; machine = m; fault = Some HistoryFull }
going_on receipts m more false (Some event) = more event

-- a run after the receipts so far, with at most `room` more records
unfoldable pub run_on : (room turns : ℕ) → List Item → (cpu : ℕ) → List Receipt → MachineValue → PlanRun
run_on zero turns plan cpu receipts m =
    going_on receipts m (λ event. record { receipts = receipts; machine = m; fault = None }) (is_full m)
    (next_event m.layout.cpus turns plan receipts)
run_on (suc room) turns plan cpu receipts m =
    going_on receipts m (λ event. run_on room turns plan cpu
    (receipts ++ receipt_of (next_record m cpu event) ∷ []) (with_record m (next_record m cpu event)))
    (is_full m) (next_event m.layout.cpus turns plan receipts)

-- a whole run: it makes no more records than the history has room for
abbrev pub plan_run : MachineValue → (cpu turns : ℕ) → List Item → PlanRun
plan_run m cpu turns plan = run_on (m.layout.history - length m.history) turns plan cpu [] m

-- the end of a run; `Undone` also if there is no fault and the receipts give no end
abbrev pub end_with : Option CallFault → List Receipt → OpEnd
end_with None receipts = unwrap_or (end_of receipts) Undone
end_with (Some fault) receipts = Left (operation_of receipts) fault

-- the text of a plan
abbrev pub plan_text : MachineValue → (cpu turns : ℕ) → List Item → List ℕ
plan_text m cpu turns plan =
    plan_line (end_with (plan_run m cpu turns plan).fault (plan_run m cpu turns plan).receipts)

-- a plan was run, and its end was written
abbrev pub WritesPlan : MachineValue → (cpu turns : ℕ) → List Item → (text : List ℕ) → (new : MachineValue)
    → Type 0
WritesPlan m cpu turns plan text new =
    (end : OpEnd) × IsPlanRun m cpu turns plan end new × (text ≡ plan_line end)
