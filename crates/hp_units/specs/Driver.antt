-- One run of a plan's driver: each event follows from the receipts so far, and the end from all of
-- them.
use Rattle.std.specs.Prelude.{◌≡◌, ℕ, ◌+◌, Bool, true, false, List, [], ◌∷◌, ◌++◌, Option, Some, None, nat_lt, count_by, fold, if◌then◌else◌}
use Rattle.std.specs.List.{last_or}
use Rattle.std.specs.Option.{option_map_or, option_and_then}
use Rattle.hp_units.specs.Numbers.{Cpu, Serial}
use Rattle.hp_units.specs.Names.{Item, Event, Begin, DrainFor, Migrate, Commit, Cancel, Reply, Done, Moved, Opened, Restored, Released, Refused, Refusal, NoFrame, NoOp, NothingToMove, NotFree, Receipt, OpEnd, EndsDone, EndsRefused, EndsCancelled, EndsUndone, EndsLeft, CallFault}

-- how many migrations were tried
abbrev pub is_migrate : Event → Bool
is_migrate (Migrate op) = true
is_migrate event = false

abbrev pub tried : List Receipt → ℕ
tried receipts = count_by (λ r. is_migrate r.event) receipts

-- a migration, or a cancel once `turns` migrations were tried
abbrev pub migrate_or_cancel : (turns : ℕ) (op : Serial) → List Receipt → Event
migrate_or_cancel turns op receipts = if nat_lt (tried receipts) turns then Migrate op else Cancel op

-- the drain of this processor in a round; after the last processor, a migration or a cancel
abbrev pub next_drain : (cpus turns : ℕ) (op : Serial) (cpu : Cpu) → List Receipt → Event
next_drain cpus turns op cpu receipts =
    if nat_lt cpu cpus then DrainFor op cpu else migrate_or_cancel turns op receipts

-- the event after a call and its reply; None if the run ends. A round of drains follows Opened,
-- NoFrame and NotFree. After a full round, and after Moved, comes a migration, or a cancel once
-- `turns` migrations were tried. A commit follows NothingToMove
abbrev pub next_after : (cpus turns : ℕ) → List Receipt → Event → Reply → Option Event
next_after cpus turns receipts (Begin plan) (Opened op) = Some (next_drain cpus turns op 0 receipts)
next_after cpus turns receipts (DrainFor op cpu) Done = Some (next_drain cpus turns op (cpu + 1) receipts)
next_after cpus turns receipts (Migrate op) (Moved from to) = Some (migrate_or_cancel turns op receipts)
next_after cpus turns receipts (Migrate op) (Refused NoFrame) = Some (next_drain cpus turns op 0 receipts)
next_after cpus turns receipts (Migrate op) (Refused NothingToMove) = Some (Commit op)
next_after cpus turns receipts (Commit op) (Refused (NotFree frame)) =
    Some (next_drain cpus turns op 0 receipts)
next_after cpus turns receipts event reply = None

-- the event after the receipts so far: the Begin if there are none, and None if the run has ended
abbrev pub next_event : (cpus turns : ℕ) → List Item → List Receipt → Option Event
next_event cpus turns plan receipts =
    option_map_or (λ r. next_after cpus turns receipts r.event r.reply) (last_or None receipts)
    (Some (Begin plan))

-- the last refusal of a migration or a commit
abbrev pub cause_after : Option Refusal → Event → Reply → Option Refusal
cause_after cause (Migrate op) (Refused refusal) = Some refusal
cause_after cause (Commit op) (Refused refusal) = Some refusal
cause_after cause event reply = cause

abbrev pub cause_of : List Receipt → Option Refusal
cause_of receipts = fold (λ cause r. cause_after cause r.event r.reply) None receipts

-- the end that follows from the last reply
abbrev pub end_after : Option Refusal → Event → Reply → Option OpEnd
end_after cause (Begin plan) (Refused refusal) = Some (EndsRefused refusal)
end_after cause event (Refused NoOp) = Some EndsUndone
end_after cause (Commit op) Done = Some EndsDone
end_after cause (Cancel op) Restored = Some (EndsCancelled cause true)
end_after cause (Cancel op) Released = Some (EndsCancelled cause false)
end_after cause event reply = None

abbrev pub end_of : List Receipt → Option OpEnd
end_of receipts = option_and_then (λ r. end_after (cause_of receipts) r.event r.reply) (last_or None receipts)

-- the operation that the first receipt opened
abbrev pub opened_by : Reply → Option Serial
opened_by (Opened op) = Some op
opened_by reply = None

abbrev pub operation_of : List Receipt → Option Serial
operation_of [] = None
operation_of (r ∷ rs) = opened_by r.reply

-- each receipt has the event that was next after the earlier ones
abbrev pub AllNext : (cpus turns : ℕ) → List Item → List Receipt → List Receipt → Type 0
AllNext cpus turns plan earlier [] = Unit {0}
AllNext cpus turns plan earlier (r ∷ rs) =
    (next_event cpus turns plan earlier ≡ Some r.event) × AllNext cpus turns plan (earlier ++ r ∷ []) rs

-- the end follows from the receipts and the last call's fault. There is a fault if and only if
-- another event was still to come
abbrev pub Ends : List Receipt → Option Event → Option CallFault → OpEnd → Type 0
Ends receipts (Some event) (Some fault) end = end ≡ EndsLeft (operation_of receipts) fault
Ends receipts (Some event) None end = ⊥
Ends receipts None (Some fault) end = ⊥
Ends receipts None None end = end_of receipts ≡ Some end

-- the receipts of one run, and its end
pub record IsDriverRun (cpus turns : ℕ) (plan : List Item) (receipts : List Receipt)
    (fault : Option CallFault) (end : OpEnd) : Type 0 where
  pub events : AllNext cpus turns plan [] receipts
  pub ends : Ends receipts (next_event cpus turns plan receipts) fault end
