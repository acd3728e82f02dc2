-- What a step of the memory leaves.
use Rattle.std.proofs.Common.{◌≡◌, ℕ, List, [], ◌∷◌, ◌++◌, length, ap, ◌∙◌}
use Rattle.hp_units.specs.Placement.{IsWellPlaced}
use Rattle.hp_units.specs.Step.{step}
use Rattle.hp_units.specs.declared.events.Event.{Event}
use Rattle.hp_units.specs.declared.replies.Record.{Record}
use Rattle.hp_units.specs.declared.replies.Reply.{Reply}
use Rattle.hp_tape.specs.Deltas.{frame_view_of}
use Rattle.hp_tape.specs.declared.deltas.Delta.{Delta}
use Rattle.hp_layers.specs.Layers.{AreNoted}
use Rattle.hp_memory.specs.Memory.{MemoryValue}
use Rattle.hp_memory.specs.Steps.{IsStepped, StepsValue}

-- a record of its parts
abbrev recorded : (serial cpu : ℕ) → Event → Reply → Record
recorded serial cpu event reply = record { serial = serial; cpu = cpu; event = event; reply = reply }

-- the value of a memory with deltas and records
abbrev pub value_with : MemoryValue → List Delta → List Record → StepsValue
value_with m deltas records =
    record { layout = m.layout; state = m.state; deltas = deltas; records = records }

-- the step is made and recorded
pub made : (old new : MemoryValue) (was now : List Delta) (most serial cpu mark : ℕ) (event copy : Event)
    (reply : Reply) (before reserved after : List Record)
    → IsWellPlaced old.layout old.state
    → new.layout ≡ old.layout
    → new.state ≡ (step old.layout old.state serial cpu event).memory
    → reply ≡ (step old.layout old.state serial cpu event).reply
    → AreNoted old.layout most was now (frame_view_of old.layout new.state)
    (frame_view_of old.layout old.state)
    → mark ≡ length was
    → copy ≡ event
    → reserved ≡ before
    → after ≡ reserved ++ recorded serial cpu copy reply ∷ []
    → IsStepped (value_with old was before) serial cpu event mark (value_with new now after)
made old new was now most serial cpu mark event copy reply before reserved after placed layout state replied
    noted marked copied kept pushed =
    record {
      state = state;
      later = record {
        since = noted.deltas;
        layout = layout;
        records =
            pushed
            ∙ (ap (λ (rs : List Record). rs ++ recorded serial cpu copy reply ∷ []) kept
            ∙ (ap (λ (e : Event). before ++ recorded serial cpu e reply ∷ []) copied
            ∙ ap (λ (y : Reply). before ++ recorded serial cpu event y ∷ []) replied));
        marked = marked;
        noted = noted.after;
        leads = record { placed = placed; numbers = noted.numbers; lead = noted.lead };
      };
    }
