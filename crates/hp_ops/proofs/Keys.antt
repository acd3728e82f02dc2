-- Drivers with equal keys ask for the same events.
use Rattle.std.proofs.Common.{◌≡◌, ℕ, zero, suc, List, Option, Some, None, ap, arith}
use Rattle.hp_ops.specs.Names.{Item, Event, Begin, DrainFor, Migrate, Commit, Cancel, Driver, Stage}
use Rattle.hp_ops.specs.Stages.{event_in, key_of, stage_number, stage_op}
use Rattle.hp_ops.specs.declared.stages.DriverKey.{DriverKey}

-- the event of a stage by its two numbers
abbrev event_at : List Item → (number op : ℕ) → Option Event
event_at plan zero op = Some (Begin plan)
event_at plan (suc zero) op = Some (Migrate op)
event_at plan (suc (suc zero)) op = Some (Commit op)
event_at plan (suc (suc (suc zero))) op = Some (Cancel op)
event_at plan (suc (suc (suc (suc zero)))) op = None
event_at plan (suc (suc (suc (suc (suc cpu))))) op = Some (DrainFor op cpu)

event_by : (plan : List Item) (s : Stage) → event_in plan s ≡ event_at plan (stage_number s) (stage_op s)
event_by plan s = grind arith

-- drivers with equal keys have as many migrations left, and ask for the same event
pub same_left : (a b : Driver) → key_of a ≡ key_of b → a.left ≡ b.left
same_left a b same = ap (λ (k : DriverKey). k.left) same

pub same_event : (a b : Driver) (plan : List Item) → key_of a ≡ key_of b
    → event_in plan a.stage ≡ event_in plan b.stage
same_event a b plan same = grind (arith, event_by)
