-- The value of a memory that goes forward and back, and what a step makes of it.
use Rattle.std.specs.Prelude.{◌≡◌, ℕ, List, [], ◌∷◌, ◌++◌, length}
use Rattle.hp_units.specs.LayoutParts.{LayoutParts}
use Rattle.hp_units.specs.Memory.{Memory}
use Rattle.hp_units.specs.Step.{step}
use Rattle.hp_units.specs.declared.events.Event.{Event}
use Rattle.hp_units.specs.declared.replies.Record.{Record}
use Rattle.hp_tape.specs.declared.deltas.Delta.{Delta}
use Rattle.hp_memory.specs.Memory.{LeadsBack}

-- the layout and the present state, the deltas that lead back, and the records of the steps
pub record StepsValue : Type 0 where
  pub layout : LayoutParts
  pub state : Memory
  pub deltas : List Delta
  pub records : List Record

-- the record of an event's step in a state, under a serial
abbrev pub record_of_step : LayoutParts → Memory → (serial cpu : ℕ) → Event → Record
record_of_step l s serial cpu event =
    record { serial = serial; cpu = cpu; event = event; reply = (step l s serial cpu event).reply }

-- `new` has one more record than `old`, and its deltas after the first `mark` lead back to `old`
pub record IsLater (old : StepsValue) (r : Record) (mark : ℕ) (new : StepsValue) : Type 0 where
  pub since : List Delta
  pub layout : new.layout ≡ old.layout
  pub records : new.records ≡ old.records ++ r ∷ []
  pub marked : mark ≡ length old.deltas
  pub noted : new.deltas ≡ old.deltas ++ since
  pub leads : LeadsBack old.layout since new.state old.state

-- an event's step was made: the state and the record are those of the step
pub record IsStepped (old : StepsValue) (serial cpu : ℕ) (event : Event) (mark : ℕ)
    (new : StepsValue) : Type 0 where
  pub state : new.state ≡ (step old.layout old.state serial cpu event).memory
  pub later : IsLater old (record_of_step old.layout old.state serial cpu event) mark new
