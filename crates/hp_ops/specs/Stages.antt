-- How far the driver of a plan is after receipts.
use Rattle.std.specs.Prelude.{◌≡◌, ℕ, ◌+◌, ◌-◌, Bool, true, false, List, [], ◌∷◌, ◌++◌, Option, Some, None, nat_lt}
use Rattle.hp_units.specs.Driver.{cause_of, end_after, end_of, next_after, next_drain, next_event, tried}
use Rattle.hp_ops.specs.declared.stages.DriverKey.{DriverKey}
use Rattle.hp_ops.specs.Names.{Item, Event, Begin, DrainFor, Migrate, Commit, Cancel, Reply, Refused, Refusal, NoOp, Receipt, OpEnd, EndsUndone, Driver, Stage, Begins, DrainsFor, Migrates, Commits, Cancels, Ended}

-- the operation that a driver's event works on
abbrev pub operation_in : Event → Option ℕ
operation_in (DrainFor op cpu) = Some op
operation_in (Migrate op) = Some op
operation_in (Commit op) = Some op
operation_in (Cancel op) = Some op
operation_in event = None

-- the event of a stage, if it is work on an operation
abbrev pub work_in : Stage → Option Event
work_in (DrainsFor op cpu) = Some (DrainFor op cpu)
work_in (Migrates op) = Some (Migrate op)
work_in (Commits op) = Some (Commit op)
work_in (Cancels op) = Some (Cancel op)
work_in stage = None

-- the event that the driver asks for in a stage; None once the run is over
abbrev pub event_in : List Item → Stage → Option Event
event_in plan Begins = Some (Begin plan)
event_in plan stage = work_in stage

-- how the run ended; None if it goes on, or ended by a reply that no machine gives
abbrev pub end_in : Stage → Option OpEnd
end_in (Ended end) = end
end_in stage = None

-- the driver has taken a reply; its run is over
abbrev pub has_begun : Stage → Bool
has_begun Begins = false
has_begun stage = true

abbrev pub is_over : Stage → Bool
is_over (Ended end) = true
is_over stage = false

-- a stage as two numbers: which stage it is (for a drain, with its processor), and the operation
-- that it works on, or 0
abbrev pub stage_number : Stage → ℕ
stage_number Begins = 0
stage_number (Migrates op) = 1
stage_number (Commits op) = 2
stage_number (Cancels op) = 3
stage_number (Ended end) = 4
stage_number (DrainsFor op cpu) = 5 + cpu

abbrev pub stage_op : Stage → ℕ
stage_op Begins = 0
stage_op (Migrates op) = op
stage_op (Commits op) = op
stage_op (Cancels op) = op
stage_op (Ended end) = 0
stage_op (DrainsFor op cpu) = op

-- what the next events of a driver depend on
abbrev pub key_of : Driver → DriverKey
key_of d = record { left = d.left; stage = stage_number d.stage; op = stage_op d.stage }

-- a driver after its receipts, on `cpus` processors and with at most `turns` migrations, whatever
-- the plan
pub record IsAfter (cpus turns : ℕ) (receipts : List Receipt) (d : Driver) : Type 0 where
  pub processors : d.cpus ≡ cpus
  pub left : d.left ≡ turns - tried receipts
  pub why : d.why ≡ cause_of receipts
  pub next : (plan : List Item) → event_in plan d.stage ≡ next_event cpus turns plan receipts
  pub end : end_in d.stage ≡ end_of receipts

-- if the old driver is the driver after some receipts, the new one is the driver after one receipt
-- more, which has this event and this reply
abbrev pub MovesOn : Driver → Event → Reply → Driver → Type 0
MovesOn old event reply new =
    (cpus turns : ℕ) (earlier : List Receipt) (r : Receipt) → r.event ≡ event → r.reply ≡ reply
    → IsAfter cpus turns earlier old → IsAfter cpus turns (earlier ++ r ∷ []) new

-- ---- after any receipts that leave `left` migrations

-- after the receipts a migration is left if and only if `left` is above 0
abbrev pub Leaves : (turns left : ℕ) → List Receipt → Type 0
Leaves turns left receipts = nat_lt (tried receipts) turns ≡ nat_lt 0 left

-- the stage is the one after this reply
abbrev pub Follows : (cpus left : ℕ) → Event → Reply → Stage → Type 0
Follows cpus left event reply stage =
    (turns : ℕ) (plan : List Item) (receipts : List Receipt) → Leaves turns left receipts
    → event_in plan stage ≡ next_after cpus turns receipts event reply

-- the stage has the end that the reply makes
abbrev pub EndsAs : Option Refusal → Event → Reply → Stage → Type 0
EndsAs why event reply stage = end_in stage ≡ end_after why event reply

-- the stage is the drain of processor `cpu` in a round of drains; after the last processor it is a
-- migration, or a cancel if no more may be tried
abbrev pub IsRound : (cpus left op cpu : ℕ) → Stage → Type 0
IsRound cpus left op cpu stage =
    (turns : ℕ) (plan : List Item) (receipts : List Receipt) → Leaves turns left receipts
    → event_in plan stage ≡ Some (next_drain cpus turns op cpu receipts)

-- the end `Undone`, if the reply reports that the operation is no longer live; otherwise None
abbrev pub undone_by : Reply → Option OpEnd
undone_by (Refused NoOp) = Some EndsUndone
undone_by reply = None
